use Rattle.std.proofs.Common.{◌≡◌, ◌*◌, length, take}
use Rattle.digest.specs.Sha256.{output}
use Rattle.digest.proofs.block.output.Given as goal

abbrev pub invariant-loop-i : goal.invariant-loop-i
invariant-loop-i l = (take (4 * l.i) l.bytes ≡ output (take l.i l.state)) × (length l.bytes ≡ 32)
