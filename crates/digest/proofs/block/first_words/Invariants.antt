use Rattle.std.proofs.Common.{◌≡◌, length, take}
use Rattle.digest.specs.Sha256.{schedule}
use Rattle.digest.proofs.block.first_words.Given as goal

abbrev pub invariant-loop-t : goal.invariant-loop-t
invariant-loop-t l = (take l.t l.w ≡ schedule l.block l.t) × (length l.w ≡ 64)
