use Rattle.message.proofs.Measured.{length_of, worked}
use Rattle.message.proofs.laws.lengths.Goals as goal

pub returns : goal.returns
returns c = record { law = length_of; worked = worked }
