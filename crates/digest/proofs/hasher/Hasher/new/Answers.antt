use Rattle.std.proofs.Common.{refl}
use Rattle.digest.specs.Running.{absorb}
use Rattle.digest.specs.Sha256.{hashed}
use Rattle.digest.proofs.hasher.Hasher.new.Goals as goal

pub returns : goal.returns
unfolding absorb hashed
returns c = record { value = refl; law = refl }
