use Rattle.std.proofs.Common.{rules}
use Rattle.causes.proofs.Words.{words_tell_causes, words_unbroken}
use Rattle.causes.proofs.laws.causes_told.Goals as goal

pub returns : goal.returns
returns c = record { numbers = search rules; words = words_tell_causes; unbroken = words_unbroken }
