use Rattle.ghash.specs.Field.{halves}
use Rattle.ghash.proofs.rows.four_on.Goals as goal

pub returns : goal.returns
unfolding halves
returns c = cc
