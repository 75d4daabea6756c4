use Rattle.std.proofs.Common.{List, [], ◌∷◌, sym, ◌∙◌, rules}
use borrow.Author.Tests.{tests}
use Rattle.std.proofs.lemmas.Iterator.{YieldsList-from_slice}
use Rattle.std.proofs.lemmas.Iterator.Adapters.{option_map_id}
use Rattle.std.proofs.lemmas.Iterator.Consumers.{YieldsList-from_copied}
use Rattle.std.proofs.lemmas.Iterator.Search.{find_from_yields_List}
use Rattle.octets.specs.Equality.{same}
use Rattle.causes.specs.declared.cause.Cause.{Cause}
use Rattle.causes.specs.declared.cause.Cause.TheVariants.{NoSpace, Held, BadName, PathTooLong, NoSuchName, AlreadyThere, NotEmpty, AtTop, ListTooLong}
use Rattle.causes.specs.Causes.{word}
use Rattle.causes.proofs.cause.cause_of_word.Goals as goal

pub returns : goal.returns
returns c =
    let all : List Cause = NoSpace ∷ Held ∷ BadName ∷ PathTooLong ∷ NoSuchName ∷ AlreadyThere ∷ NotEmpty ∷ AtTop ∷ ListTooLong ∷ [] in
    let found = find_from_yields_List (λ x. same c.args.words.now (word x)) _ _ c.find.result c.find.ensures.ran
    (YieldsList-from_copied (YieldsList-from_slice all (cc))) (λ x b q k. search (rules, tests)) in
    sym (option_map_id c.find.result) ∙ found
