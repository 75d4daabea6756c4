use Rattle.std.proofs.Common.{◌≡◌, ℕ, ◌+◌, ◌-◌, ◌*◌, ◌/◌, ◌%◌, ◌^◌, ◌<◌, [], length, get_or, refl, ap, ◌∙◌, arith}
use lib.Bits.{bit_and, and_mask}
use lib.Pow.{shr-shr}
use Rattle.std.proofs.lemmas.List.{get_or-reverse, length-reverse, get_or_default, length_push}
use Rattle.std.proofs.lemmas.Iterator.Adapters.{YieldsList-from_rev_slice}
use Rattle.std.proofs.lemmas.Iterator.Consumers.{YieldsList-turn, YieldsList-end}
use Rattle.ghash.specs.Field.{halves, partial, product}
use Rattle.ghash.proofs.Product.{times_more}
use Rattle.ghash.proofs.Multiplier.times.Goals as goal

pub loop-row-init : goal.loop-row-init
unfolding partial
loop-row-init c = (refl, omega arith)

pub loop-row-preserved : goal.loop-row-preserved
loop-row-preserved c =
    let s = c.args.self.now in
    let y = c.args.y in
    let j = length c.loop-row.yielded in
    let x = c.loop-row.rest in
    let row = c.in-Some.row.now in
    let turn = YieldsList-turn (YieldsList-from_rev_slice s.rows cc) c.loop-row.yielded _ c.loop-row.yielded_by _ _ c.in-Some.row c.in-Some.is c.next.ensures.steps in
    let w : length s.rows ≡ 32 = omega arith in
    let lt : j < 32 = omega (arith, turn.0, length-reverse s.rows) in
    let p : length s.rows - 1 - j ≡ 31 - j = omega arith in
    let r : row ≡ get_or s.rows (31 - j) [] =
    turn.1 ∙ get_or-reverse s.rows j row (omega arith) ∙ ap (λ k. get_or s.rows k row) p ∙ get_or_default s.rows (31 - j) row [] (omega arith) in
    let e : bit_and x 15 ≡ x % 16 = and_mask x 4 in
    let f : get_or row (x % 16) 0 ≡ partial 4 (x % 16) (halves (4 * (31 - j)) s.h) = rw r (s.holds (31 - j) (omega arith) (x % 16) (omega arith)) in
    let g : 4 * j + 4 ≡ 4 * (j + 1) = omega arith in
    rw length_push (
      rw (e, f, c.loop-row.invariant.1) (times_more j y s.h c.loop-row.z lt c.loop-row.invariant.0),
      ap (λ (n : ℕ). n / 2 ^ 4) c.loop-row.invariant.1 ∙ shr-shr y (4 * j) 4 ∙ ap (λ (n : ℕ). y / 2 ^ n) g,
    )

pub returns : goal.returns
unfolding product halves
returns c =
    let s = c.args.self.now in
    let end = YieldsList-end (YieldsList-from_rev_slice s.rows cc) c.loop-row.yielded _ c.loop-row.yielded_by _ _ c.in-None.is c.next.ensures.steps in
    let w : length s.rows ≡ 32 = omega arith in
    let e : length c.loop-row.yielded ≡ 32 = end.1 ∙ length-reverse s.rows ∙ w in
    rw e at c.loop-row.invariant.0
