use Rattle.std.proofs.Common.{◌≡◌, ◌+◌, length, refl, sym, arith, ap, ◌∙◌, length-append, take-append-drop}
use Rattle.std.specs.Slice.Iter.{chunks_rest}
use Rattle.digest.specs.Running.{absorb}
use Rattle.digest.specs.Stands.{running}
use Rattle.digest.proofs.Steps.{count_more, parts_more, parts_all, absorbed_more}
use Rattle.digest.proofs.hasher.Hasher.update.Goals as goal

pub loop-part-init : goal.loop-part-init
loop-part-init c =
    let n = count_more (running c.args.self.now) (running c.fill.new.self) _ c.fill.ensures in
    let b : chunks_rest c.into_iter-part-iterator.result ≡ c.split_at.result.1.now = cc in
    (cc, omega arith, λ h. omega (arith, ap length b), refl)

pub loop-part-preserved : goal.loop-part-preserved
loop-part-preserved c =
    let s = running c.loop-part.self in
    let t = running c.fill-in-loop-part.new.self in
    let step = c.in-Some.ensures.steps in
    let n = count_more s t _ c.fill-in-loop-part.ensures in
    let l : length (chunks_rest c.loop-part.part-iterator) ≡ length c.in-Some.part.now + length (chunks_rest c.next.new.self) =
    ap length step.1.0 ∙ length-append c.in-Some.part.now (chunks_rest c.next.new.self) in
    let z = c.loop-part.invariant.2 step.1.2 in (
      cc,
      omega arith,
      λ h. omega arith,
      parts_more s t _ _ _ c.fill-in-loop-part.ensures step.1.0 ∙ c.loop-part.invariant.3,
    )

pub returns : goal.returns
returns c =
    let r = running c.args.self.now in
    let cut : c.args.piece.now ≡ _ = sym (take-append-drop c.min.result c.args.piece.now) in
    let e : running c.loop-part.self ≡ absorb r c.args.piece.now =
    parts_all c.loop-part.self _ (omega arith) c.in-None.ensures.steps.1.0
    ∙ c.loop-part.invariant.3
    ∙ parts_more r (running c.fill.new.self) _ _ _ c.fill.ensures (rw (c.into_iter-part-iterator.ensures.into_iter_gives, c.chunks-part-items.ensures.rest, c.split_at.ensures.front, c.split_at.ensures.back) cut) in
    record { after = e; law = λ m a. absorbed_more r (running c.loop-part.self) m c.args.piece.now a e }
