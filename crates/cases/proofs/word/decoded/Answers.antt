use Rattle.std.proofs.Common.{◌≡◌, ℕ, min, rules, ◌<◌, List, length, Err, vec_items, sym, ap, ◌∙◌, inr, arith}
use Rattle.std.specs.Slice.Iter.{chunks_rest}
use Rattle.cases.specs.Hex.{decoded}
use Rattle.cases.proofs.Decoding.{onto, goes_on, stops, lone, done, refused_by}
use Rattle.cases.proofs.word.decoded.Goals.{in_default-via-then-pair-lt2, in_default-via-else-pair-lt2+else-pair-lt3}
use Rattle.cases.proofs.word.decoded.Goals as goal

pub returns-in_default-clause-fault : goal.returns-in_default-clause-fault
returns-in_default-clause-fault c =
    let s = c.in-Some.ensures.steps.1 in
    let rest = chunks_rest c.loop-pair.pair-iterator in
    let two : length c.in-Some.pair.now ≡ min 2 (length rest) = rw c.loop-pair.invariant.0 at s.1 in
    let some : 0 < length rest = s.2 in
    let one : length rest ≡ 1 =
    elim c.in_default.branch [ in_default-via-then-pair-lt2 w ↦ search rules | in_default-via-else-pair-lt2+else-pair-lt3 w ↦ search rules ] in
    inr (c.loop-pair.invariant.1 ∙ lone (vec_items c.loop-pair.out) rest one)

pub returns-in_err-byte-clause-fault : goal.returns-in_err-byte-clause-fault
returns-in_err-byte-clause-fault c =
    let s = c.in-Some.ensures.steps.1 in
    let e = sym c.byte.ensures ∙ c.in_err-byte.was in
    let stop = stops (vec_items c.loop-pair.out) _ c.in-Some.pair.now _ c.in_err-byte.field-0.0 s.0 (omega arith) e in
    refused_by c.from_residual.result _ _ c.from_residual.ensures.1 (λ f q. inr (c.loop-pair.invariant.1 ∙ stop ∙ ap Err (sym q)))

pub loop-pair-preserved : goal.loop-pair-preserved
loop-pair-preserved c =
    let s = c.in-Some.ensures.steps in
    let xs = vec_items c.loop-pair.out in
    let e = sym c.byte.ensures ∙ c.in_ok-byte.was in (
      s.0 ∙ c.loop-pair.invariant.0,
      c.loop-pair.invariant.1 ∙ goes_on xs _ c.in-Some.pair.now _ c.in_ok-byte.field-0 s.1.0 (omega arith) e
          ∙ ap (λ (ys : List ℕ). onto ys (decoded (chunks_rest c.next.new.self))) (sym c.in_ok-push.ensures.items),
    )

pub returns-clause-bytes : goal.returns-clause-bytes
returns-clause-bytes c = c.loop-pair.invariant.1 ∙ done (vec_items c.loop-pair.out) _ c.in-None.ensures.steps.1.0
