use Rattle.std.proofs.Common.{refl, ◌∙◌, arith}
use Rattle.digest.specs.Sha256.{output}
use Rattle.digest.proofs.Rounds.{output_put}
use Rattle.digest.proofs.block.output.Goals as goal

pub loop-i-init : goal.loop-i-init
unfolding output
loop-i-init c = (refl, refl)

pub loop-i-preserved : goal.loop-i-preserved
loop-i-preserved c =
    output_put c.args.state.now c.loop-i.bytes c.copy_from_slice.new.self c.loop-i.i _ (omega arith) (omega arith)
    c.loop-i.invariant.1 c.loop-i.invariant.0 (c.copy_from_slice.ensures.after ∙ c.to_be_bytes.ensures) (omega arith)
