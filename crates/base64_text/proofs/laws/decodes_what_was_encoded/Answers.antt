use Rattle.base64_text.proofs.Back.{decodes_back}
use Rattle.base64_text.proofs.laws.decodes_what_was_encoded.Goals as goal

pub returns : goal.returns
returns c = decodes_back
