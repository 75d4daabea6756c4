use Rattle.names.proofs.Told.{users_told}
use Rattle.names.proofs.laws.users_told.Goals as goal

pub returns : goal.returns
returns c = users_told
