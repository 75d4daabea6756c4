use Rattle.headers.proofs.Bytes.{writes}
use Rattle.headers.proofs.laws.writes_what_was_read.Goals as goal

pub returns : goal.returns
returns c = writes
