use Rattle.commands.proofs.Back.{commands_read_back}
use Rattle.commands.proofs.laws.commands_read_back.Goals as goal

pub returns : goal.returns
returns c = commands_read_back
