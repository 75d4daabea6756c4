use Rattle.payloads.proofs.CredentialsBack.{log_ins_read_back}
use Rattle.payloads.proofs.laws.log_ins_read_back.Goals as goal

pub returns : goal.returns
returns c = log_ins_read_back
