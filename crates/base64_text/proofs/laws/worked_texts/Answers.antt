use Rattle.std.proofs.Common.{refl}
use Rattle.base64_text.specs.Base64.{encode, decode}
use Rattle.base64_text.proofs.laws.worked_texts.Goals as goal

pub returns : goal.returns
unfolding encode decode
returns c = record { alphabet = refl; texts = (refl, refl) }
