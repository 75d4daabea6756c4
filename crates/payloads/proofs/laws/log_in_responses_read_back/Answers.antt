use Rattle.payloads.proofs.ReceiptsBack.{answers_read_back}
use Rattle.payloads.proofs.laws.log_in_responses_read_back.Goals as goal

pub returns : goal.returns
returns c = answers_read_back
