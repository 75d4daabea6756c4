-- What is written is read back, and nothing else is read; worked values.
use Rattle.std.specs.Prelude.{◌≡◌, ℕ, ◌^◌, ◌<◌, ◌≤◌, List, length, Some, None, codes, decimal}
use Rattle.octets.specs.Hexadecimal.{hexadecimal}
use Rattle.std.specs.List.{AllByRecursion}
use Rattle.numerals.specs.Decimals.{decimal_of}
use Rattle.numerals.specs.Digests.{digit_of, digest_of}

-- The text of a number is read as the number, and a text that is read is the text of its number.
pub record DecimalsReadBack : Type 0 where
  pub back : (k n : ℕ) → n < k → k ≤ 2 ^ 64 → decimal_of k (decimal n) ≡ Some n
  pub only : (k n : ℕ) (t : List ℕ) → k ≤ 2 ^ 64 → decimal_of k t ≡ Some n → (t ≡ decimal n) × (n < k)

-- The text of 32 bytes is read as the bytes, and a text that is read is the text of its 32 bytes.
pub record DigestsReadBack : Type 0 where
  pub back : (bs : List ℕ) → length bs ≡ 32 → AllByRecursion (λ b. b < 256) bs → digest_of (hexadecimal bs) ≡ Some bs
  pub only : (t bs : List ℕ) → digest_of t ≡ Some bs → (t ≡ hexadecimal bs) × (length bs ≡ 32)

-- Worked values, at the bounds and just past them.
pub record Worked : Type 0 where
  pub zero : decimal_of (2 ^ 32) (codes "0") ≡ Some 0
  pub empty : decimal_of (2 ^ 32) (codes "") ≡ None
  pub leading : decimal_of (2 ^ 32) (codes "05") ≡ None
  pub zeros : decimal_of (2 ^ 32) (codes "00") ≡ None
  pub signed : decimal_of (2 ^ 32) (codes "+5") ≡ None
  pub spaced : decimal_of (2 ^ 32) (codes "5 ") ≡ None
  pub last32 : decimal_of (2 ^ 32) (codes "4294967295") ≡ Some 4294967295
  pub past32 : decimal_of (2 ^ 32) (codes "4294967296") ≡ None
  pub last64 : decimal_of (2 ^ 64) (codes "18446744073709551615") ≡ Some 18446744073709551615
  pub past64 : decimal_of (2 ^ 64) (codes "18446744073709551616") ≡ None
  pub nine : digit_of 57 ≡ Some 9
  pub ten : digit_of 97 ≡ Some 10
  pub upper : digit_of 65 ≡ None
  pub past : digit_of 103 ≡ None
  pub short : digest_of (codes "ff") ≡ None
