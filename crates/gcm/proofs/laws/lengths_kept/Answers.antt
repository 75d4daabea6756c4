use Rattle.gcm.proofs.Law.{lengths-kept}
use Rattle.gcm.proofs.laws.lengths_kept.Goals as goal

pub returns : goal.returns
returns c = lengths-kept
