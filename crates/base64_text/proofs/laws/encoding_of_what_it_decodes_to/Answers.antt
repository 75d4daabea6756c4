use Rattle.base64_text.proofs.Back.{encodes_back}
use Rattle.base64_text.proofs.laws.encoding_of_what_it_decodes_to.Goals as goal

pub returns : goal.returns
returns c = encodes_back
