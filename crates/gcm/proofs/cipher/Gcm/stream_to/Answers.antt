use Rattle.aes.specs.Under.{under}
use Rattle.gcm.proofs.Fronting.{no_room}
use Rattle.gcm.proofs.cipher.Gcm.stream_to.Goals as goal

pub returns-then-text-body : goal.returns-then-text-body
returns-then-text-body c =
    let w = no_room (under c.args.self.now.aes) c.args.iv.now c.args.body.now c.args.text.now c.if-text-body.true in
    record { answer = w.0; text = w.1 }
