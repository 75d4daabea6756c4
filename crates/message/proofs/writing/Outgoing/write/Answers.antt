use Rattle.kinds.specs.Kinds.{code}
use Rattle.message.proofs.Laying.{wrote}
use Rattle.message.proofs.writing.Outgoing.write.Goals as goal

pub returns-clause-output : goal.returns-clause-output
returns-clause-output g c =
    let x = c.args.self.now in
    wrote (g.S.Seal.sealing c.args.seal.now) (code x.kind) x.number x.random x.payload.now x.after.now c.args.out.now _ _ _ _ _ _ _ _ _ _
    c.if-out-lt4124.false (rw c.in_ok-size.ensures.long at c.in_ok-size.ensures.one)
    (rw (c.code.ensures, c.in_ok-size.ensures.long) at c.write-header.ensures) c.copy_from_slice.ensures.after c.copy_from_slice-2.ensures.after c.copy_from_slice-4.ensures.after
    c.seal.ensures.body c.seal.ensures.tag c.copy_from_slice-3.ensures.after
    c.split_at_mut-front.ensures.back c.split_at_mut-body.ensures.back c.split_at_mut-tag.ensures.back
