use Rattle.message.specs.Messages.{opens}
use Rattle.message.proofs.Opening.{cut}
use Rattle.message.proofs.taking.open_part.Goals as goal

pub returns : goal.returns
unfolding opens
returns g c =
    let first = rw c.unwrap.ensures at c.split_first_chunk.ensures.cases in
    let last = rw c.unwrap-2.ensures at c.split_last_chunk.ensures.cases in
    let p = cut c.args.message.now _ _ _ _ c.args.end c.requires.low c.requires.high first.0 first.1 last.0 last.1 in
    record { told = rw (p.0, p.1, p.2) at c.open.ensures.told; text = rw (p.0, p.1, p.2) at c.open.ensures.text }
