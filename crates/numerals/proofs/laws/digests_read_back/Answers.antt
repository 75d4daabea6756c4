use Rattle.numerals.proofs.Back.{digests_read_back}
use Rattle.numerals.proofs.laws.digests_read_back.Goals as goal

pub returns : goal.returns
returns c = digests_read_back
