-- A product taken nibble by nibble.
use mathlib.Core.Path.{◌≡◌, sym, ap, ap₂, ◌∙◌}
use Prim.Native.Nat.{ℕ, zero, suc, ◌+◌, ◌-◌, ◌*◌, ◌/◌, ◌%◌, ◌^◌, ◌<◌}
use native.Mathlib.Nat.{zero-add, suc-add, add_comm}
use native.Mathlib.Omega.{arith}
use lib.Bits.{bit_xor, xor_assoc, xor_comm}
use lib.Pow.{shr-shr}
use Rattle.ghash.specs.Field.{halve, halves, pick, partial}

pub halves-add : (a b v : ℕ) → halves (a + b) v ≡ halves b (halves a v)
unfolding halves
halves-add zero b v = ap (λ (n : ℕ). halves n v) (zero-add b)
halves-add (suc a) b v = ap (λ (n : ℕ). halves n v) (suc-add a b) ∙ halves-add a b (halve v)

-- the a high bits of a + b, and then the b low ones
pub partial-add : (a b y v : ℕ) → partial (a + b) y v ≡ bit_xor (partial a (y / 2 ^ b) v) (partial b y (halves a v))
unfolding partial halves
partial-add zero b y v = ap (λ (n : ℕ). partial n y v) (zero-add b)
partial-add (suc a) b y v =
    ap (λ (n : ℕ). partial n y v) (suc-add a b)
    ∙ ap₂ (λ (p q : ℕ). bit_xor (pick (p % 2) v) q) (ap (λ (n : ℕ). y / 2 ^ n) (add_comm a b) ∙ sym (shr-shr y b a)) (partial-add a b y (halve v))
    ∙ sym (xor_assoc (pick (y / 2 ^ b / 2 ^ a % 2) v) (partial a (y / 2 ^ b) (halve v)) (partial b y (halves a (halve v))))

-- four bits see only the lowest nibble
pub nibble : (y v : ℕ) → partial 4 (y % 16) v ≡ partial 4 y v
unfolding partial
nibble y v =
    let b3 : y % 16 / 8 % 2 ≡ y / 8 % 2 = omega arith in
    let b2 : y % 16 / 4 % 2 ≡ y / 4 % 2 = omega arith in
    let b1 : y % 16 / 2 % 2 ≡ y / 2 % 2 = omega arith in
    let b0 : y % 16 / 1 % 2 ≡ y / 1 % 2 = omega arith in
    cc

-- one nibble more of the product, from the lowest on
pub times_more : (j y h z : ℕ) → j < 32 → z ≡ partial (4 * j) y (halves (128 - 4 * j) h)
    → bit_xor z (partial 4 (y / 2 ^ (4 * j) % 16) (halves (4 * (31 - j)) h)) ≡ partial (4 * (j + 1)) y (halves (128 - 4 * (j + 1)) h)
times_more j y h z lt so_far =
    let v = halves (4 * (31 - j)) h in
    let e : 4 * (j + 1) ≡ 4 + 4 * j = omega arith in
    let f : 128 - 4 * (j + 1) ≡ 4 * (31 - j) = omega arith in
    let g : 128 - 4 * j ≡ 4 * (31 - j) + 4 = omega arith in
    let s : z ≡ partial (4 * j) y (halves 4 v) =
    so_far ∙ ap (λ (q : ℕ). partial (4 * j) y q) (ap (λ (n : ℕ). halves n h) g ∙ halves-add (4 * (31 - j)) 4 h) in
    xor_comm z (partial 4 (y / 2 ^ (4 * j) % 16) v)
    ∙ ap₂ bit_xor (nibble (y / 2 ^ (4 * j)) v) s
    ∙ sym (partial-add 4 (4 * j) y v)
    ∙ ap₂ (λ (p q : ℕ). partial p y q) (sym e) (ap (λ (n : ℕ). halves n h) (sym f))
