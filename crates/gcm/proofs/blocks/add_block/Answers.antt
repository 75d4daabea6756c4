use Rattle.std.proofs.Common.{◌≡◌, ℕ, ◌/◌, ◌%◌, ◌^◌, List, ◌++◌, length, ap, ◌∙◌, ap₂}
use lib.Bits.{and_mask}
use Rattle.gcm.specs.Blocks.{block_bytes}
use Rattle.gcm.proofs.Halves.{be8, halves, both_halves}
use Rattle.gcm.proofs.blocks.add_block.Goals as goal

pub returns : goal.returns
returns c =
    let b = c.args.block in
    let h : c.to_be_bytes-high.result ≡ be8 (b / 2 ^ 64) = c.to_be_bytes-high.ensures in
    let l : c.to_be_bytes-low.result ≡ be8 (b % 2 ^ 64) = c.to_be_bytes-low.ensures ∙ ap be8 (and_mask b 64) in
    both_halves c.args.part.now c.add_stream.new.part c.add_stream-2.new.part c.to_be_bytes-high.result c.to_be_bytes-low.result
    (block_bytes b) c.requires (ap length h) (ap length l) (ap₂ (λ (x y : List ℕ). x ++ y) h l ∙ halves b) c.add_stream.ensures c.add_stream-2.ensures
