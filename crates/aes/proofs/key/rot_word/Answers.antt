use Rattle.std.proofs.Common.{◌∙◌}
use Rattle.aes.specs.Words.{rot_word, word, byte0, byte1, byte2, byte3}
use Rattle.aes.proofs.key.rot_word.Goals as goal

pub returns : goal.returns
unfolding rot_word word byte0 byte1 byte2 byte3
returns c = c.from_be_bytes.ensures ∙ rw c.to_be_bytes.ensures
