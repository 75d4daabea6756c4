use Rattle.std.proofs.Common.{refl, arith}
use Rattle.octets.specs.Hexadecimal.{hexadecimal}
use Rattle.octets.proofs.Characters.{text-more}
use Rattle.octets.proofs.text.hexadecimal.Goals as goal

pub loop-i-init : goal.loop-i-init
unfolding hexadecimal
loop-i-init c = (refl, refl)

pub loop-i-preserved : goal.loop-i-preserved
loop-i-preserved c =
    text-more c.args.digest.now c.loop-i.text c.loop-i.i c.digit.result c.digit-in-loop-i.result (omega arith)
    c.told-digest c.loop-i.invariant.1 c.digit.ensures c.digit-in-loop-i.ensures c.loop-i.invariant.0
