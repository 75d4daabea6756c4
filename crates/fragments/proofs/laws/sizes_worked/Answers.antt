use Rattle.std.proofs.Common.{refl}
use Rattle.fragments.specs.Cuts.{cut_after}
use Rattle.fragments.proofs.laws.sizes_worked.Goals as goal

pub returns : goal.returns
unfolding cut_after
returns c = record { empty = refl; one = refl; full = refl; past_full = refl; two_full = refl; scan = refl }
