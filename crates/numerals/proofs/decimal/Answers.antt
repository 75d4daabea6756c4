use Rattle.std.proofs.Common.{Some, None, refl, ◌∙◌, arith}
use Rattle.std.proofs.lemmas.Bool.{le-leb}
use Rattle.numerals.proofs.Reading.{in_type}
use Rattle.numerals.proofs.decimal.Goals as goal

pub returns-in_err-read_up_to : goal.returns-in_err-read_up_to
returns-in_err-read_up_to g c =
    c.from_residual.ensures ∙ in_type g.N.Unsigned.of _ _ c.args.text.now None c.LARGEST.ensures c.in_err-read_up_to.ensures.value

pub returns : goal.returns
returns g c =
    let t = le-leb c.in_ok-read_up_to.field-0 g.N.Unsigned.LARGEST (omega (arith, c.in_ok-read_up_to.ensures.within, c.LARGEST.ensures)) in
    (c.of.ensures ∙ rw t refl) ∙ in_type g.N.Unsigned.of _ _ c.args.text.now (Some _) c.LARGEST.ensures c.in_ok-read_up_to.ensures.value
