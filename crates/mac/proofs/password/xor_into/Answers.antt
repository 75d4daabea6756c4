use Rattle.std.proofs.Common.{add-one, arith}
use Rattle.mac.proofs.Bytes.{part-more}
use Rattle.mac.proofs.password.xor_into.Goals as goal

pub loop-i-preserved : goal.loop-i-preserved
loop-i-preserved c = simp (c.loop-i.invariant, add-one) (part-more c.args.sum.now c.args.by.now c.loop-i.i (omega arith) (omega arith))
