use Rattle.std.proofs.Common.{◌≡◌, ℕ, ◌+◌, ◌-◌, ◌*◌, ◌/◌, ◌%◌, length, sym, refl, ap, ◌∙◌, arith}
use Rattle.aes.specs.Under.{under}
use Rattle.gcm.specs.Blocks.{block_bytes}
use Rattle.gcm.specs.Gcm.{stream, gctr, counter, key_byte}
use Rattle.gcm.proofs.Stream.{partly, partly-all}
use Rattle.gcm.proofs.Numbers.{part_done}
use Rattle.gcm.proofs.cipher.Gcm.stream.Goals as goal

pub loop-i-init : goal.loop-i-init
unfolding stream
loop-i-init c = refl

pub loop-i-preserved : goal.loop-i-preserved
unfolding counter block_bytes
loop-i-preserved c =
    let E = under c.args.self.now.aes in
    let iv = c.args.iv.now in
    let i = c.loop-i.i in
    let n = c.args.first in
    let up : 16 * (i + 1) ≡ 16 * i + 16 = omega arith in
    let block : c.counter_block-block.result ≡ E (counter iv (i + n)) = cc c.counter_block-block.ensures in
    let key : block_bytes c.counter_block-block.result ≡ block_bytes (E (counter iv (i + n))) = ap block_bytes block in
    part_done E iv n i 16 (16 * i + 16 - 16 * i) c.loop-i.text c.args.text.now c.add_block.new.part (block_bytes c.counter_block-block.result)
    (omega arith) (omega arith) (omega arith) c.loop-i.invariant key c.add_block.ensures
    ∙ ap (λ (q : ℕ). partly (key_byte E iv n) q c.args.text.now) (sym up)

pub returns : goal.returns
unfolding gctr counter block_bytes
returns c =
    let E = under c.args.self.now.aes in
    let iv = c.args.iv.now in
    let b = c.args.text.now in
    let i = length b / 16 in
    let n = c.args.first in
    let r = length b % 16 in
    let last : c.loop-i.i ≡ i = omega arith in
    let so_far : c.loop-i.text ≡ partly (key_byte E iv n) (16 * i) b = c.loop-i.invariant ∙ ap (λ (j : ℕ). partly (key_byte E iv n) (16 * j) b) last in
    let block : c.counter_block.result ≡ E (counter iv (i + n)) = cc c.counter_block.ensures in
    let key : c.to_be_bytes-ks.result ≡ block_bytes (E (counter iv (i + n))) = c.to_be_bytes-ks.ensures ∙ ap block_bytes block in
    part_done E iv n i r (length c.loop-i.text - 16 * i) c.loop-i.text b c.add_stream.new.part c.to_be_bytes-ks.result
    (omega arith) (omega arith) (omega arith) so_far key c.add_stream.ensures
    ∙ partly-all (key_byte E iv n) (16 * i + r) b (omega arith)
