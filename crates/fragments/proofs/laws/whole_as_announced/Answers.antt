use Rattle.fragments.proofs.Taking.{whole_as_announced}
use Rattle.fragments.proofs.laws.whole_as_announced.Goals as goal

pub returns : goal.returns
returns c = whole_as_announced
