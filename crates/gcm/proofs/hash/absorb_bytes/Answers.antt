use Rattle.std.proofs.Common.{◌≡◌, ◌≢◌, ℕ, ◌+◌, ◌*◌, ◌/◌, [], length, get_or, drop, refl, arith, ◌∙◌, ap}
use lib.Bits.{bit_xor}
use Rattle.std.proofs.lemmas.Bool.Decides.{nat_tests}
use Rattle.ghash.specs.Field.{product}
use Rattle.gcm.specs.Blocks.{number, block_at}
use Rattle.gcm.specs.Gcm.{absorb, blocks}
use Rattle.gcm.proofs.Numbers.{absorb-more, number-chunk}
use Rattle.gcm.proofs.hash.absorb_bytes.Goals as goal

pub loop-block-init : goal.loop-block-init
unfolding absorb
loop-block-init c = refl

pub loop-block-preserved : goal.loop-block-preserved
unfolding number
loop-block-preserved c =
    let h = c.args.hash.now.h in
    let xs = c.args.xs.now in
    let i = c.loop-block.block-index in
    let v : c.from_be_bytes.result ≡ number (get_or c.as_chunks.result.0.now i []) = c.from_be_bytes.ensures in
    c.times-z.ensures
    ∙ ap (λ (b : ℕ). product (bit_xor c.loop-block.z b) h) (v ∙ number-chunk xs c.as_chunks.result.0.now _ i (omega arith) c.as_chunks.ensures.front)
    ∙ absorb-more h c.args.y c.loop-block.z i xs c.loop-block.invariant

pub returns-then-not-is_empty : goal.returns-then-not-is_empty
unfolding blocks block_at
returns-then-not-is_empty c =
    let xs = c.args.xs.now in
    let i = c.loop-block.block-index in
    let f : i ≡ length xs / 16 = omega arith in
    let some : length c.as_chunks.result.1.now ≢ 0 = grind (arith, nat_tests) in
    let n : i + 1 ≡ (length xs + 15) / 16 = omega arith in
    let from : length xs / 16 * 16 ≡ 16 * i = omega arith in
    let v : c.padded.result ≡ block_at xs i =
    c.padded.ensures ∙ ap number c.as_chunks.ensures.back ∙ ap (λ (k : ℕ). number (drop k xs)) from in
    cc (absorb-more c.args.hash.now.h c.args.y c.loop-block.z i xs c.loop-block.invariant)

pub returns-else-not-is_empty : goal.returns-else-not-is_empty
unfolding blocks
returns-else-not-is_empty c =
    let xs = c.args.xs.now in
    let none : length c.as_chunks.result.1.now ≡ 0 = grind (arith, nat_tests) in
    let n : c.loop-block.block-index ≡ (length xs + 15) / 16 = omega arith in
    cc
