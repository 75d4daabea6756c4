use Rattle.fields.proofs.Joins.{fields_stand}
use Rattle.fields.proofs.laws.fields_stand.Goals as goal

pub returns : goal.returns
returns c = fields_stand
