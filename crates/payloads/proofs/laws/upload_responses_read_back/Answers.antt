use Rattle.payloads.proofs.ReceiptsBack.{receipts_read_back}
use Rattle.payloads.proofs.laws.upload_responses_read_back.Goals as goal

pub returns : goal.returns
returns c = receipts_read_back
