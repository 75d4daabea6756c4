use Rattle.worked.proofs.Enciphered.{ciphers_worked}
use Rattle.worked.proofs.ciphers.Goals as goal

pub returns : goal.returns
returns c = ciphers_worked
