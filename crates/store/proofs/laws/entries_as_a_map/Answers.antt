use Rattle.store.proofs.Found.{entries_as_a_map}
use Rattle.store.proofs.laws.entries_as_a_map.Goals as goal

pub returns : goal.returns
returns c = entries_as_a_map
