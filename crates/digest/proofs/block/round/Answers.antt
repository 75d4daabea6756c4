use Rattle.digest.specs.Sha256.{constants, round}
use Rattle.digest.proofs.block.round.Goals as goal

pub returns : goal.returns
unfolding constants round
returns c = cc
