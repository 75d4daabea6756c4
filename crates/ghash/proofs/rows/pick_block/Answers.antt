use borrow.Author.Rules.{rules}
use Rattle.ghash.specs.Field.{pick}
use Rattle.ghash.proofs.rows.pick_block.Goals as goal

pub returns-then-b-eq0 : goal.returns-then-b-eq0
unfolding pick
returns-then-b-eq0 c = search rules

pub returns-else-b-eq0 : goal.returns-else-b-eq0
unfolding pick
returns-else-b-eq0 c = search rules
