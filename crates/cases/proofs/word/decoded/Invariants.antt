use Rattle.std.proofs.Common.{◌≡◌, vec_items}
use Rattle.std.specs.Slice.Iter.{chunks_rest, chunks_size}
use Rattle.cases.specs.Hex.{decoded}
use Rattle.cases.proofs.Decoding.{onto}
use Rattle.cases.proofs.word.decoded.Given as goal

abbrev pub invariant-loop-pair : goal.invariant-loop-pair
invariant-loop-pair l =
    (chunks_size l.pair-iterator ≡ 2) × (decoded l.initial.digits ≡ onto (vec_items l.out) (decoded (chunks_rest l.pair-iterator)))
