use Rattle.std.proofs.Common.{◌≡◌, ◌*◌, length, take}
use Rattle.octets.specs.Hexadecimal.{hexadecimal}
use Rattle.octets.proofs.text.hexadecimal.Given as goal

abbrev pub invariant-loop-i : goal.invariant-loop-i
invariant-loop-i l = (take (2 * l.i) l.text ≡ hexadecimal (take l.i l.digest)) × (length l.text ≡ 64)
