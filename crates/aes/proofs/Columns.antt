-- One column of a round, by the mixed table and by the standard.
use Rattle.std.proofs.Common.{◌≡◌, ℕ, ◌*◌, ◌/◌, ◌%◌, ◌<◌}
use lib.Bits.{bit_xor, bit_or, xor_lt}
use Rattle.sbox.specs.Substitution.{sub_byte}
use Rattle.aes.specs.Words.{word, byte0, byte1, byte2, byte3, sub_word}
use Rattle.aes.specs.Cipher.{shifted, mix_column, mix_bytes, xor4}
use Rattle.aes.proofs.MixRule.{mix_of, sub_lt, twice_lt, thrice_lt}
use Rattle.aes.proofs.Bytes.{byte0_lt, byte1_lt, byte2_lt, byte3_lt, byte0_word, byte1_word, byte2_word, byte3_word, turn8, turn16, turn24, xor_words}

xlt : (a b : ℕ) → a < 256 → b < 256 → bit_xor a b < 256
xlt = xor_lt 8

sub-bytes : (w : ℕ) → (byte0 (sub_word w) ≡ sub_byte (byte0 w)) × (byte1 (sub_word w) ≡ sub_byte (byte1 w)) × (byte2 (sub_word w) ≡ sub_byte (byte2 w)) × (byte3 (sub_word w) ≡ sub_byte (byte3 w))
unfolding sub_word
sub-bytes w =
    let a = sub_lt (byte0 w) (byte0_lt w) in
    let b = sub_lt (byte1 w) (byte1_lt w) in
    let c = sub_lt (byte2 w) (byte2_lt w) in
    let d = sub_lt (byte3 w) (byte3_lt w) in
    (byte0_word _ _ _ _ a b c d, byte1_word _ _ _ _ a b c d, byte2_word _ _ _ _ a b c d, byte3_word _ _ _ _ a b c d)

module _ (a b c d : ℕ) where
  pub shifted_sub : shifted (sub_word a) (sub_word b) (sub_word c) (sub_word d) ≡ word (sub_byte (byte0 a)) (sub_byte (byte1 b)) (sub_byte (byte2 c)) (sub_byte (byte3 d))
  unfolding shifted
  shifted_sub = cc ((sub-bytes a).0, (sub-bytes b).1, (sub-bytes c).2, (sub-bytes d).3)

  pub mixed_sub : mix_column (shifted (sub_word a) (sub_word b) (sub_word c) (sub_word d)) ≡ mix_bytes (sub_byte (byte0 a)) (sub_byte (byte1 b)) (sub_byte (byte2 c)) (sub_byte (byte3 d))
  unfolding mix_column
  mixed_sub =
      let p = sub_lt (byte0 a) (byte0_lt a) in
      let q = sub_lt (byte1 b) (byte1_lt b) in
      let r = sub_lt (byte2 c) (byte2_lt c) in
      let s = sub_lt (byte3 d) (byte3_lt d) in
      rw shifted_sub (cc (byte0_word _ _ _ _ p q r s, byte1_word _ _ _ _ p q r s, byte2_word _ _ _ _ p q r s, byte3_word _ _ _ _ p q r s))

-- the four mixed words, turned and added
pub turned : (p q r s : ℕ) → p < 256 → q < 256 → r < 256 → s < 256
    → bit_xor (bit_xor (bit_xor (mix_of p) (bit_or (mix_of q / 256) ((mix_of q * 16777216) % 4294967296)))
    (bit_or (mix_of r / 65536) ((mix_of r * 65536) % 4294967296)))
    (bit_or (mix_of s / 16777216) ((mix_of s * 256) % 4294967296))
    ≡ mix_bytes (sub_byte p) (sub_byte q) (sub_byte r) (sub_byte s)
unfolding mix_bytes xor4
turned p q r s hp hq hr hs =
    let p1 = sub_lt p hp in
    let p2 = twice_lt p hp in
    let p3 = thrice_lt p hp in
    let q1 = sub_lt q hq in
    let q2 = twice_lt q hq in
    let q3 = thrice_lt q hq in
    let r1 = sub_lt r hr in
    let r2 = twice_lt r hr in
    let r3 = thrice_lt r hr in
    let s1 = sub_lt s hs in
    let s2 = twice_lt s hs in
    let s3 = thrice_lt s hs in
    let a0 = xlt _ _ p2 q3 in
    let a1 = xlt _ _ p1 q2 in
    let a2 = xlt _ _ p1 q1 in
    let a3 = xlt _ _ p3 q1 in
    cc (
      turn8 _ _ _ _ q2 q1 q1 q3,
      turn16 _ _ _ _ r2 r1 r1 r3,
      turn24 _ _ _ _ s2 s1 s1 s3,
      xor_words _ _ _ _ p2 p1 p1 p3 _ _ _ _ q3 q2 q1 q1,
      xor_words _ _ _ _ a0 a1 a2 a3 _ _ _ _ r1 r3 r2 r1,
      xor_words _ _ _ _ (xlt _ _ a0 r1) (xlt _ _ a1 r3) (xlt _ _ a2 r2) (xlt _ _ a3 r1) _ _ _ _ s1 s1 s3 s2,
    )
