use Rattle.std.proofs.Common.{sym, ◌∙◌}
use Rattle.fields.proofs.Steps.{cut_some, cut_none}
use Rattle.fields.proofs.reader.field_at.Goals as goal

pub returns-in-Some-clause-cuts : goal.returns-in-Some-clause-cuts
returns-in-Some-clause-cuts c =
    let e = cut_some c.args.text.now c.rest-rest.result.now c.args.at c.in-Some.size c.rest-rest.ensures c.in-Some.ensures in
    let f = c.cut_off.ensures in
    e ∙ sym (cc)

pub returns-in-None-clause-cuts : goal.returns-in-None-clause-cuts
returns-in-None-clause-cuts c =
    let e = cut_none c.args.text.now c.rest-rest.result.now c.args.at c.rest-rest.ensures c.in-None.ensures in
    let f = c.cut_off-in-None.ensures in
    e ∙ sym (cc)
