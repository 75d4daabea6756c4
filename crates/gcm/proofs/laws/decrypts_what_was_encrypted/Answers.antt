use Rattle.gcm.proofs.Law.{decrypts}
use Rattle.gcm.proofs.laws.decrypts_what_was_encrypted.Goals as goal

pub returns : goal.returns
returns c = decrypts
