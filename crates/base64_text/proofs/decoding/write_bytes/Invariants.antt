use Rattle.std.proofs.Common.{◌≡◌, ◌*◌, true, is_some}
use Rattle.octets.specs.Fronts.{at_front}
use Rattle.base64_text.specs.Base64.{decode}
use Rattle.base64_text.proofs.Steps.{found, Left, rest}
use Rattle.base64_text.proofs.decoding.write_bytes.Given as goal

abbrev pub invariant-loop-i : goal.invariant-loop-i
invariant-loop-i l =
    (is_some (decode (rest l.text l.i)) ≡ true)
    × Left (3 * l.i) (found (decode (rest l.text l.i))) l.out (at_front (found (decode l.text)) l.initial.out)
