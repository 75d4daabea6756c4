use Rattle.fields.proofs.Joins.{cut_of_joined, joined_of_cut}
use Rattle.fields.proofs.laws.cut_and_joined.Goals as goal

pub returns : goal.returns
returns c = record { cut = cut_of_joined; joined = joined_of_cut }
