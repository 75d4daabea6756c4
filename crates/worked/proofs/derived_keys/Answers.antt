use Rattle.worked.proofs.Computed.{keys_worked}
use Rattle.worked.proofs.derived_keys.Goals as goal

pub returns : goal.returns
returns c = keys_worked
