use Rattle.std.proofs.Common.{get_or, refl, arith}
use Rattle.gcm.specs.Gcm.{stream}
use Rattle.gcm.proofs.Stream.{partly-one}
use Rattle.gcm.proofs.blocks.add_stream.Goals as goal

pub loop-k-init : goal.loop-k-init
unfolding stream
loop-k-init g c = refl

pub loop-k-preserved : goal.loop-k-preserved
loop-k-preserved g c = rw c.loop-k.invariant (partly-one (λ k. get_or c.args.ks k 0) c.loop-k.k c.args.part.now (omega arith))
