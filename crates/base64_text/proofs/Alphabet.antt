-- Letters and their numbers.
use Rattle.std.proofs.Common.{◌≡◌, ℕ, ◌<◌, ◌≤◌, false, eqb, Some, arith}
use Rattle.std.proofs.lemmas.Bool.Decides.{nat_tests}
use Rattle.base64_text.specs.Base64.{letter, value}

pub value-letter : (n : ℕ) → n < 64 → value (letter n) ≡ Some n
value-letter n h = grind (arith, nat_tests)

pub letter_no_pad : (n : ℕ) → n < 64 → eqb (letter n) 61 ≡ false
letter_no_pad n h = grind (arith, nat_tests)

pub value_small : (c n : ℕ) → value c ≡ Some n → n < 64
value_small c n e = grind (arith, nat_tests)

pub value-high : (c n : ℕ) → value c ≡ Some n → 43 ≤ c
value-high c n e = grind (arith, nat_tests)

pub letter-value : (c n : ℕ) → value c ≡ Some n → letter n ≡ c
letter-value c n e = grind (arith, nat_tests)
