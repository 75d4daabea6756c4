use Rattle.std.proofs.Common.{sym, refl, ◌∙◌, arith, length-set}
use Rattle.digest.specs.Sha256.{schedule}
use Rattle.digest.proofs.Rounds.{scheduled_early, schedule-more}
use Rattle.digest.proofs.Chunks.{chunk_word}
use Rattle.digest.proofs.block.first_words.Goals as goal

pub loop-t-init : goal.loop-t-init
unfolding schedule
loop-t-init c = (refl, refl)

pub loop-t-preserved : goal.loop-t-preserved
loop-t-preserved c =
    let b = c.args.block.now in
    let v = chunk_word b _ _ c.loop-t.t _ (omega arith) c.as_chunks.ensures.front c.from_be_bytes.ensures in (
      schedule-more _ _ _ _ (omega arith) c.loop-t.invariant.0 (v ∙ sym (scheduled_early _ _ _ (omega arith))),
      length-set _ _ _ ∙ c.loop-t.invariant.1,
    )
