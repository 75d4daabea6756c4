use Rattle.std.proofs.Common.{◌≡◌, ℕ, ◌+◌, ◌*◌, refl, sym, ap, ◌∙◌, arith, length-set}
use Rattle.ghash.specs.Field.{halves}
use Rattle.ghash.proofs.Filled.{rows_more}
use Rattle.ghash.proofs.Product.{halves-add}
use Rattle.ghash.proofs.rows.products.Goals as goal

pub loop-place-init : goal.loop-place-init
unfolding halves
loop-place-init c = (refl, refl, λ j lt. absurd (omega arith))

pub loop-place-preserved : goal.loop-place-preserved
loop-place-preserved c =
    let j = c.loop-place.place-index in
    let e : 4 * (j + 1) ≡ 4 * j + 4 = omega arith in (
      c.four_on-v.ensures ∙ ap (halves 4) c.loop-place.invariant.0 ∙ sym (ap (λ (n : ℕ). halves n c.args.h) e ∙ halves-add (4 * j) 4 c.args.h),
      length-set _ _ _ ∙ c.loop-place.invariant.1,
      rows_more j c.args.h c.loop-place.v c.row.result c.loop-place.place-items (omega arith) c.loop-place.invariant.0 c.loop-place.invariant.2 c.row.ensures,
    )
