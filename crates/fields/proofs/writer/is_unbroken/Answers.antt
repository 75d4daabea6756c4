use Rattle.std.proofs.Common.{not, ap, ◌∙◌}
use Rattle.fields.proofs.Laying.{no_ten}
use Rattle.fields.proofs.writer.is_unbroken.Goals as goal

pub returns : goal.returns
returns c = ap not c.contains.ensures.value ∙ no_ten c.args.field.now
