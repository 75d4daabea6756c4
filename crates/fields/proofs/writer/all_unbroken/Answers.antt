use Rattle.std.proofs.Common.{◌∙◌, rules}
use borrow.Author.Tests.{tests}
use Rattle.std.proofs.lemmas.Iterator.{YieldsList-from_slice}
use Rattle.std.proofs.lemmas.Iterator.Search.{all_from_yields_List}
use Rattle.fields.specs.Cuts.{unbroken}
use Rattle.fields.proofs.Laying.{each_unbroken}
use Rattle.fields.proofs.writer.all_unbroken.Goals as goal

pub returns : goal.returns
returns c =
    all_from_yields_List (λ f. unbroken f.now) _ _ _ c.all.ensures.ran (YieldsList-from_slice c.args.fields.now cc) (λ x b q k. search (rules, tests))
    ∙ each_unbroken c.args.fields.now
