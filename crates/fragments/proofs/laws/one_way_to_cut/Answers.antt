use Rattle.fragments.proofs.Cutting.{one_way_to_cut}
use Rattle.fragments.proofs.laws.one_way_to_cut.Goals as goal

pub returns : goal.returns
returns c = one_way_to_cut
