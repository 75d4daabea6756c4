use Rattle.std.proofs.Common.{◌≡◌, ℕ, ◌≤◌, get_or, arith}
use Rattle.std.proofs.lemmas.List.{get_or_past}
use Rattle.gcm.specs.Blocks.{number}
use Rattle.gcm.proofs.blocks.iv_block.Goals as goal

pub returns-clause-low : goal.returns-clause-low
unfolding number
returns-clause-low c =
    let iv = c.args.iv.now in
    let past : (k : ℕ) → 12 ≤ k → get_or iv k 0 ≡ 0 = λ k h. get_or_past iv k 0 (omega arith) in
    omega (arith, c.padded.ensures, past 12 (omega arith), past 13 (omega arith), past 14 (omega arith), past 15 (omega arith))
