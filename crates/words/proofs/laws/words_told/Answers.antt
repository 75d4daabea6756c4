use Rattle.words.proofs.Told.{words_told}
use Rattle.words.proofs.laws.words_told.Goals as goal

pub returns : goal.returns
returns c = words_told
