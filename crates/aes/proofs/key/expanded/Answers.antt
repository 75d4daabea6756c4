use Rattle.std.proofs.Common.{◌≡◌, ℕ, ◌-◌, sym, refl, ap, ◌∙◌, arith}
use Rattle.std.proofs.lemmas.List.{length-set, take_all}
use Rattle.aes.specs.Words.{key_words, expand, schedule}
use Rattle.aes.proofs.Loops.{expand-more, key_more}
use Rattle.aes.proofs.key.expanded.Goals as goal

pub loop-i-init : goal.loop-i-init
unfolding key_words
loop-i-init c = (refl, refl)

pub loop-i-preserved : goal.loop-i-preserved
loop-i-preserved c =
    (simp length-set c.loop-i.invariant.0, key_more c.loop-i.words c.args.key.now _ _ c.loop-i.i _ (omega arith) (omega arith) c.as_chunks.ensures.front c.loop-i.invariant.1 c.from_be_bytes.ensures)

pub loop-j-init : goal.loop-j-init
unfolding expand
loop-j-init c =
    let e : c.loop-i.i ≡ 8 = omega arith in
    (c.loop-i.invariant.0, rw e at c.loop-i.invariant.1)

pub loop-j-preserved : goal.loop-j-preserved
loop-j-preserved c =
    let step = expand-more c.loop-j.words (key_words 8 c.args.key.now) c.loop-j.j (omega arith) (omega arith) c.loop-j.invariant.1 in
    (simp length-set c.loop-j.invariant.0, rw c.carried.ensures step)

pub returns : goal.returns
unfolding schedule
returns c =
    let e : c.loop-j.j ≡ 60 = omega arith in
    sym (take_all c.loop-j.j c.loop-j.words (omega arith)) ∙ c.loop-j.invariant.1 ∙ ap (λ (n : ℕ). expand (n - 8) (key_words 8 c.args.key.now)) e
