use Rattle.worked.proofs.Computed.{codes_worked}
use Rattle.worked.proofs.codes.Goals as goal

pub returns : goal.returns
returns c = codes_worked
