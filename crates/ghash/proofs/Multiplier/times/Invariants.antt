use Rattle.std.proofs.Common.{◌≡◌, ◌-◌, ◌*◌, ◌/◌, ◌^◌, length}
use Rattle.ghash.specs.Field.{halves, partial}
use Rattle.ghash.proofs.Multiplier.times.Given as goal

abbrev pub invariant-loop-row : goal.invariant-loop-row
invariant-loop-row l =
    (l.z ≡ partial (4 * length l.yielded) l.y (halves (128 - 4 * length l.yielded) l.self.h))
    × (l.rest ≡ l.y / 2 ^ (4 * length l.yielded))
