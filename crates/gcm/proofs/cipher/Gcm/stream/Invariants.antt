use Rattle.std.proofs.Common.{◌≡◌, ◌*◌}
use Rattle.aes.specs.Under.{under}
use Rattle.gcm.specs.Gcm.{key_byte}
use Rattle.gcm.proofs.Stream.{partly}
use Rattle.gcm.proofs.cipher.Gcm.stream.Given as goal

abbrev pub invariant-loop-i : goal.invariant-loop-i
invariant-loop-i l = l.text ≡ partly (key_byte (under l.self.aes) l.iv l.first) (16 * l.i) l.initial.text
