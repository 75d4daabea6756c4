use Rattle.responses.proofs.Back.{back}
use Rattle.responses.proofs.Only.{only}
use Rattle.responses.proofs.laws.responses_read_back.Goals as goal

pub returns : goal.returns
returns c = record { back = back; only = only }
