use Rattle.std.proofs.Common.{◌≡◌, ◌-◌, ◌∙◌, arith}
use Rattle.mac.specs.Pbkdf2.{iterated, folded, pbkdf2}
use Rattle.mac.proofs.Rounds.{iterated_more, folded_more}
use Rattle.mac.proofs.password.pbkdf2.Goals as goal

pub loop-round-init : goal.loop-round-init
unfolding iterated folded
loop-round-init c =
    let e = c.finish-last.ensures.law _ _ (c.update-2.ensures.law _ _ (c.update.ensures.law _ _ c.new-keyed.ensures.law)) in
    (e, e, omega arith, omega arith)

pub loop-round-preserved : goal.loop-round-preserved
loop-round-preserved c =
    let u = iterated_more _ _ _ c.loop-round.auto._round _ _ c.loop-round.invariant.0
    (c.finish-last-in-loop-round.ensures.law _ _ (c.update-in-loop-round.ensures.law _ _ c.new-keyed.ensures.law)) in
    (u, folded_more _ _ _ c.loop-round.auto._round _ _ _ c.loop-round.invariant.1 u c.xor_into.ensures, omega arith, omega arith)

pub returns : goal.returns
unfolding pbkdf2
returns c = let e : c.loop-round._round - 1 ≡ c.args.rounds - 1 = omega arith in c.loop-round.invariant.1 ∙ rw e
