-- Words and their bytes.
use Rattle.std.proofs.Common.{◌≡◌, ℕ, ◌+◌, ◌*◌, ◌/◌, ◌%◌, ◌^◌, ◌<◌, ap, ◌∙◌, arith}
use lib.Bits.{bit_xor, bit_or, xor_block, or_shifted_r}
use Rattle.aes.specs.Words.{word, byte0, byte1, byte2, byte3}

pub byte0_lt : (w : ℕ) → byte0 w < 256
unfolding byte0
byte0_lt w = omega arith

pub byte1_lt : (w : ℕ) → byte1 w < 256
unfolding byte1
byte1_lt w = omega arith

pub byte2_lt : (w : ℕ) → byte2 w < 256
unfolding byte2
byte2_lt w = omega arith

pub byte3_lt : (w : ℕ) → byte3 w < 256
unfolding byte3
byte3_lt w = omega arith

module _ (a b c d : ℕ) (ha : a < 256) (hb : b < 256) (hc : c < 256) (hd : d < 256) where
  pub byte0_word : byte0 (word a b c d) ≡ a
  unfolding byte0 word
  byte0_word = omega arith

  pub byte1_word : byte1 (word a b c d) ≡ b
  unfolding byte1 word
  byte1_word = omega arith

  pub byte2_word : byte2 (word a b c d) ≡ c
  unfolding byte2 word
  byte2_word = omega arith

  pub byte3_word : byte3 (word a b c d) ≡ d
  unfolding byte3 word
  byte3_word = omega arith

  -- a rotation by whole bytes
  pub turn8 : bit_or (word a b c d / 256) ((word a b c d * 16777216) % 4294967296) ≡ word d a b c
  unfolding word
  turn8 =
      let lo : (a * 16777216 + b * 65536 + c * 256 + d) / 256 < 2 ^ 24 = omega arith in
      let hi : ((a * 16777216 + b * 65536 + c * 256 + d) * 16777216) % 4294967296 ≡ d * 2 ^ 24 = omega arith in
      rw (hi, or_shifted_r d 24 ((a * 16777216 + b * 65536 + c * 256 + d) / 256) lo) (omega arith)

  pub turn16 : bit_or (word a b c d / 65536) ((word a b c d * 65536) % 4294967296) ≡ word c d a b
  unfolding word
  turn16 =
      let lo : (a * 16777216 + b * 65536 + c * 256 + d) / 65536 < 2 ^ 16 = omega arith in
      let hi : ((a * 16777216 + b * 65536 + c * 256 + d) * 65536) % 4294967296 ≡ (c * 256 + d) * 2 ^ 16 = omega arith in
      rw (hi, or_shifted_r (c * 256 + d) 16 ((a * 16777216 + b * 65536 + c * 256 + d) / 65536) lo) (omega arith)

  pub turn24 : bit_or (word a b c d / 16777216) ((word a b c d * 256) % 4294967296) ≡ word b c d a
  unfolding word
  turn24 =
      let lo : (a * 16777216 + b * 65536 + c * 256 + d) / 16777216 < 2 ^ 8 = omega arith in
      let hi : ((a * 16777216 + b * 65536 + c * 256 + d) * 256) % 4294967296 ≡ (b * 65536 + c * 256 + d) * 2 ^ 8 = omega arith in
      rw (hi, or_shifted_r (b * 65536 + c * 256 + d) 8 ((a * 16777216 + b * 65536 + c * 256 + d) / 16777216) lo) (omega arith)

  pub xor_words : (p q r s : ℕ) → p < 256 → q < 256 → r < 256 → s < 256
      → bit_xor (word a b c d) (word p q r s) ≡ word (bit_xor a p) (bit_xor b q) (bit_xor c r) (bit_xor d s)
  unfolding word
  xor_words p q r s hp hq hr hs =
      let e : (w x y z : ℕ) → w * 16777216 + x * 65536 + y * 256 + z ≡ ((w * 2 ^ 8 + x) * 2 ^ 8 + y) * 2 ^ 8 + z = λ w x y z. omega arith in
      rw (e a b c d, e p q r s, e (bit_xor a p) (bit_xor b q) (bit_xor c r) (bit_xor d s))
      (xor_block 8 ((a * 2 ^ 8 + b) * 2 ^ 8 + c) ((p * 2 ^ 8 + q) * 2 ^ 8 + r) d s hd hs
      ∙ ap (λ (n : ℕ). n * 2 ^ 8 + bit_xor d s) (xor_block 8 (a * 2 ^ 8 + b) (p * 2 ^ 8 + q) c r hc hr)
      ∙ ap (λ (n : ℕ). (n * 2 ^ 8 + bit_xor c r) * 2 ^ 8 + bit_xor d s) (xor_block 8 a p b q hb hq))
