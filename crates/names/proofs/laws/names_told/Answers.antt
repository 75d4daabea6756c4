use Rattle.names.proofs.Told.{names_told}
use Rattle.names.proofs.laws.names_told.Goals as goal

pub returns : goal.returns
returns c = names_told
