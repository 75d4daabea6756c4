use Rattle.headers.proofs.Bytes.{reads}
use Rattle.headers.proofs.laws.reads_what_was_written.Goals as goal

pub returns : goal.returns
returns c = reads
