use Rattle.payloads.proofs.SignalsBack.{signals_read_back}
use Rattle.payloads.proofs.laws.go_aheads_read_back.Goals as goal

pub returns : goal.returns
returns c = signals_read_back
