use Rattle.std.proofs.Common.{◌≡◌, ◌%◌, ◌^◌, ◌<◌, length}
use Rattle.std.specs.Slice.Iter.{chunks_rest, chunks_size}
use Rattle.digest.specs.Running.{absorb}
use Rattle.digest.specs.Stands.{running}
use Rattle.digest.proofs.hasher.Hasher.update.Given as goal

-- While bytes are left, the buffer is empty.
abbrev pub invariant-loop-part : goal.invariant-loop-part
invariant-loop-part l =
    (chunks_size l.part-iterator ≡ 64) × (l.self.total < 2 ^ 64)
    × (0 < length (chunks_rest l.part-iterator) → l.self.total % 64 ≡ 0)
    × (absorb (running l.self) (chunks_rest l.part-iterator) ≡ absorb (running l.initial.self) (chunks_rest l.initial.part-iterator))
