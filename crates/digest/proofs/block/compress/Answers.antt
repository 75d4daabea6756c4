use Rattle.std.proofs.Common.{◌+◌, ◌*◌, refl, arith, lit≤, get_or, ◌∙◌, rules}
use Rattle.digest.specs.Sha256.{rounds, plus}
use Rattle.digest.proofs.Made.{made}
use Rattle.digest.proofs.Rounds.{Ahead, ahead_more, ahead_all, rounds-more, compress-all}
use Rattle.digest.proofs.block.compress.Goals as goal

pub loop-i-init : goal.loop-i-init
unfolding rounds
loop-i-init c = (c.first_words-w.ensures.front, c.first_words-w.ensures.whole, refl)

pub loop-i-preserved : goal.loop-i-preserved
loop-i-preserved c =
    let b = c.args.block.now in
    let s = c.args.state.now in
    let t = 4 * c.loop-i.i in
    let a1 = ahead_more b s _ _ _ _ t (t + 1) (t + 16) (omega arith) (omega arith) (omega arith) c.loop-i.invariant c.round-v.ensures c.extend.ensures in
    let a2 = ahead_more b s _ _ _ _ (t + 1) (t + 2) (t + 17) (omega arith) (omega arith) (omega arith) a1 c.round-v-in-loop-i.ensures c.extend-in-loop-i.ensures in
    let a3 = ahead_more b s _ _ _ _ (t + 2) (t + 3) (t + 18) (omega arith) (omega arith) (omega arith) a2 c.round-v-in-loop-i-2.ensures c.extend-in-loop-i-2.ensures in
    ahead_more b s _ _ _ _ (t + 3) _ (t + 19) (omega arith) (omega arith) (omega arith) a3 c.round-v-in-loop-i-3.ensures c.extend-in-loop-i-3.ensures

pub loop-i-2-preserved : goal.loop-i-2-preserved
loop-i-2-preserved c =
    let w = c.loop-i.w in
    let s = c.args.state.now in
    let t = 4 * c.loop-i-2.i in
    let e1 = rounds-more w s _ _ t (t + 1) (omega arith) c.loop-i-2.invariant c.round-v-in-loop-i-2-2.ensures in
    let e2 = rounds-more w s _ _ (t + 1) (t + 2) (omega arith) e1 c.round-v-in-loop-i-2-3.ensures in
    let e3 = rounds-more w s _ _ (t + 2) (t + 3) (omega arith) e2 c.round-v-in-loop-i-2-4.ensures in
    rounds-more w s _ _ (t + 3) _ (omega arith) e3 c.round-v-in-loop-i-2-5.ensures

pub returns : goal.returns
returns c =
    let b = c.args.block.now in
    let s = c.args.state.now in
    let a : Ahead b s (4 * c.loop-i.i) c.loop-i.w c.loop-i.v = c.loop-i.invariant in
    made _ (λ k. plus (get_or s k 0) (get_or c.loop-i-2.v k 0)) _ (λ i y q k. search rules) c.from_fn.result 8 0 c.from_fn.ensures.items
    ∙ compress-all b s c.loop-i.w c.loop-i-2.v (4 * c.loop-i-2.i) (ahead_all b s c.loop-i.w c.loop-i.v (4 * c.loop-i.i) (omega arith) a)
    (omega (arith, c.loop-i-2.auto.i-end (lit≤ tt))) c.loop-i-2.invariant
