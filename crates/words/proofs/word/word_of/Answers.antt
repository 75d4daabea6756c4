use Rattle.std.proofs.Common.{List, [], ◌∷◌, sym, ◌∙◌, rules}
use borrow.Author.Tests.{tests}
use Rattle.std.proofs.lemmas.Iterator.{YieldsList-from_slice}
use Rattle.std.proofs.lemmas.Iterator.Adapters.{option_map_id}
use Rattle.std.proofs.lemmas.Iterator.Consumers.{YieldsList-from_copied}
use Rattle.std.proofs.lemmas.Iterator.Search.{find_from_yields_List}
use Rattle.octets.specs.Equality.{same}
use Rattle.words.specs.declared.word.Word.{Word}
use Rattle.words.specs.declared.word.Word.TheVariants.{Pwd, Lst, Chd, Mkd, Del, Upl, Dnl}
use Rattle.words.specs.Words.{word_text}
use Rattle.words.proofs.word.word_of.Goals as goal

pub returns : goal.returns
returns c =
    let all : List Word = Pwd ∷ Lst ∷ Chd ∷ Mkd ∷ Del ∷ Upl ∷ Dnl ∷ [] in
    let found = find_from_yields_List (λ w. same c.args.field.now (word_text w)) _ _ c.find.result c.find.ensures.ran
    (YieldsList-from_copied (YieldsList-from_slice all (cc))) (λ x b q k. search (rules, tests)) in
    sym (option_map_id c.find.result) ∙ found
