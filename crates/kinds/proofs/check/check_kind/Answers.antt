use Rattle.std.proofs.Common.{rules, eqb, ◌∙◌, ap}
use borrow.Author.Tests.{tests}
use Rattle.std.proofs.lemmas.Iterator.{YieldsList-from_slice}
use Rattle.std.proofs.lemmas.Iterator.Search.{find_from_yields_List}
use Rattle.std.specs.Option.{ok_or}
use Rattle.kinds.specs.declared.refusal.MessageRefusal.TheVariants.{Unexpected}
use Rattle.kinds.specs.Kinds.{code, found}
use Rattle.kinds.proofs.check.check_kind.Goals as goal

pub returns : goal.returns
unfolding found
returns c =
    let f = find_from_yields_List (λ k. eqb (code k) c.args.code) _ _ c.find.result c.find.ensures.ran (YieldsList-from_slice c.args.expected.now cc) (λ x b q k. search (rules, tests)) in
    c.ok_or.ensures.value ∙ ap (λ o. ok_or o Unexpected) (c.copied.ensures ∙ f)
