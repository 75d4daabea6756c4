use Rattle.numerals.proofs.Back.{decimals_read_back}
use Rattle.numerals.proofs.laws.decimals_read_back.Goals as goal

pub returns : goal.returns
returns c = decimals_read_back
