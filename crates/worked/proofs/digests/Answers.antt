use Rattle.worked.proofs.Computed.{digests_worked}
use Rattle.worked.proofs.digests.Goals as goal

pub returns : goal.returns
returns c = digests_worked
