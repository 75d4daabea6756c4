use Rattle.std.proofs.Common.{◌≡◌, ◌*◌}
use Rattle.digest.specs.Sha256.{rounds}
use Rattle.digest.proofs.Rounds.{Ahead}
use Rattle.digest.proofs.block.compress.Given as goal

abbrev pub invariant-loop-i : goal.invariant-loop-i
invariant-loop-i l = Ahead l.block l.initial.v (4 * l.i) l.w l.v

abbrev pub invariant-loop-i-2 : goal.invariant-loop-i-2
invariant-loop-i-2 l = l.v ≡ rounds l.w l.state (4 * l.i)
