use Rattle.std.proofs.Common.{◌≡◌, ℕ, List, take, ap, ◌∙◌, ap₂}
use lib.Bits.{bit_xor}
use Rattle.aes.specs.Under.{under}
use Rattle.gcm.specs.Blocks.{block_bytes}
use Rattle.gcm.specs.Gcm.{tag_of, counter, ghash}
use Rattle.gcm.proofs.cipher.Gcm.tag.Goals as goal

pub returns : goal.returns
unfolding tag_of counter block_bytes
returns c =
    let E = under c.args.self.now.aes in
    let mask : c.counter_block-mask.result ≡ E (counter c.args.iv.now 1) = cc c.counter_block-mask.ensures in
    let hash : c.hash_all.result ≡ ghash (E 0) c.args.added.now c.args.body.now = cc (c.hash_all.ensures, c.args.self.now.tied) in
    c.copy_from_slice.ensures.after
    ∙ ap (λ (l : List ℕ). take 12 l) c.to_be_bytes-full.ensures
    ∙ ap₂ (λ (x y : ℕ). take 12 (block_bytes (bit_xor x y))) mask hash
