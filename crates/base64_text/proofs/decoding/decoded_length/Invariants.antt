use Rattle.std.proofs.Common.{◌≡◌, ◌*◌}
use Rattle.base64_text.specs.Base64.{decode}
use Rattle.base64_text.specs.Groups.{counted}
use Rattle.base64_text.proofs.Steps.{plus, rest}
use Rattle.base64_text.proofs.decoding.decoded_length.Given as goal

abbrev pub invariant-loop-a : goal.invariant-loop-a
invariant-loop-a l = plus (3 * l.a-index) (counted (decode (rest l.text l.a-index))) ≡ counted (decode l.text)
