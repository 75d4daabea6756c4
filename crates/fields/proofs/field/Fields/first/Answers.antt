use Rattle.fields.proofs.Steps.{starts_there}
use Rattle.fields.proofs.field.Fields.first.Goals as goal

pub returns : goal.returns
returns c = starts_there c.args.self.now.text.now c.args.self.now.next
