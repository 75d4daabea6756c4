use Rattle.mac.specs.Codes.{coding}
use Rattle.mac.proofs.Codes.{parts_more}
use Rattle.mac.proofs.code.Hmac.take_all.Goals as goal

pub loop-part-preserved : goal.loop-part-preserved
loop-part-preserved c k m a =
    parts_more k m c.args.parts.now c.loop-part.part-index (coding c.update.new.self) _
    c.loop-part-test.true (c.update.ensures.law _ _ (c.loop-part.invariant k m a))
