use Rattle.std.proofs.Common.{get_or}
use Rattle.fields.proofs.Laying.{Laid, none}
use Rattle.fields.proofs.writer.lay.Given as goal

abbrev pub invariant-loop-field : goal.invariant-loop-field
invariant-loop-field l = Laid (get_or l.fields 0 none).now l.rest l.field-index l.at l.out l.initial.out
