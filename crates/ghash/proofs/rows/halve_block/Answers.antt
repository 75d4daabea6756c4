use borrow.Author.Rules.{rules}
use Rattle.ghash.specs.Field.{halve}
use Rattle.ghash.proofs.rows.halve_block.Goals as goal

pub returns-then-v-eq0 : goal.returns-then-v-eq0
unfolding halve
returns-then-v-eq0 c = search rules

pub returns-else-v-eq0 : goal.returns-else-v-eq0
unfolding halve
returns-else-v-eq0 c = search rules
