use Rattle.std.proofs.Common.{length, get_or, List, ℕ, sym, refl, ap, ◌∙◌, arith}
use Rattle.octets.specs.Fronts.{at_front}
use Rattle.fields.specs.Cuts.{joined}
use Rattle.fields.proofs.Laying.{none, laid_room, laid_more, still_room, laid_done, by_first}
use Rattle.fields.proofs.writer.lay.Goals as goal

pub loop-field-preserved : goal.loop-field-preserved
loop-field-preserved c =
    let first : List ℕ = (get_or c.args.fields.now 0 none).now in
    let e = ap (λ fs. length (joined fs)) (by_first c.args.fields.now c.in-len1-up.len_at_least) in
    let r = laid_room first _ c.loop-field.field-index c.loop-field.at c.loop-field.out _ c.loop-field-test.true c.loop-field.invariant
    (still_room first _ c.loop-field.out c.copy_from_slice.new.self c.args.out.now (length first) c.copy_from_slice.ensures.after refl c.loop-field.auto.out (omega (arith, e, c.requires))) in
    laid_more first _ c.loop-field.field-index c.loop-field.at _ c.loop-field.out _ _ c.loop-field-test.true c.loop-field.invariant r
    c.lead-at.ensures.value c.lead-at.ensures.output

pub returns : goal.returns
returns c =
    let first : List ℕ = (get_or c.args.fields.now 0 none).now in
    let e = by_first c.args.fields.now c.in-len1-up.len_at_least in
    laid_done first _ c.loop-field.field-index c.loop-field.at (length first) c.loop-field.out c.copy_from_slice.new.self c.args.out.now c.loop-field-test.false
    c.copy_from_slice.ensures.after refl c.loop-field.invariant ∙ ap (λ fs. at_front (joined fs) c.args.out.now) (sym e)
