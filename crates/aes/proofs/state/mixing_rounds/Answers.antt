use Rattle.std.proofs.Common.{take, drop, ◌∙◌, arith, rules}
use Rattle.std.proofs.lemmas.Iterator.{YieldsList-from_slice}
use Rattle.std.proofs.lemmas.Iterator.Consumers.{fold_from_yields_List}
use Rattle.aes.proofs.Loops.{under_key, folded}
use Rattle.aes.proofs.state.mixing_rounds.Goals as goal

pub returns : goal.returns
returns c =
    let keys = c.as_chunks.result.0.now in
    fold_from_yields_List _ under_key c.args.s c.fold.result c.fold.ensures.ran (YieldsList-from_slice (take 13 (drop 1 keys)) cc) (λ t k u q w. search rules)
    ∙ folded c.args.words.now keys _ 13 c.args.s (omega arith) c.as_chunks.ensures.front_len c.as_chunks.ensures.front
