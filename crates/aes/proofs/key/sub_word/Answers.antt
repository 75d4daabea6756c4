use Rattle.std.proofs.Common.{rules}
use Rattle.aes.specs.Words.{sub_word, word, byte0, byte1, byte2, byte3}
use Rattle.aes.proofs.key.sub_word.Goals as goal

pub returns : goal.returns
unfolding sub_word word byte0 byte1 byte2 byte3
returns c = search rules
