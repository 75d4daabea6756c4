-- Blocks as the elements of GF(2^128) (SP 800-38D, section 6.3): numbers below 2 ^ 128, whose highest bit is the coefficient of x^0.
use Rattle.std.specs.Prelude.{ℕ, zero, suc, ◌*◌, ◌/◌, ◌%◌, ◌^◌, cond, eqb}
use Rattle.std.specs.Int.Bits.{bit_xor}

-- Times x: a shift to the right, and R, which is 11100001 and 120 zeros, added where a bit falls out.
unfoldable pub halve : ℕ → ℕ
halve v = cond (eqb (v % 2) 0) (v / 2) (bit_xor (v / 2) (225 * 2 ^ 120))

-- Times x, n times.
unfoldable pub halves : ℕ → ℕ → ℕ
halves zero v = v
halves (suc n) v = halves n (halve v)

-- v where the bit b is set, else 0.
unfoldable pub pick : ℕ → ℕ → ℕ
pick b v = cond (eqb b 0) 0 v

-- The sum of v, x v, x^2 v .. over those of the n low bits of y that are set, the highest of them first.
unfoldable pub partial : ℕ → ℕ → ℕ → ℕ
partial zero y v = 0
partial (suc n) y v = bit_xor (pick (y / 2 ^ n % 2) v) (partial n y (halve v))

-- The product y • v: for i from 0 to 127, Z takes V in where bit i of y is set, and V goes on by times x.
unfoldable pub product : ℕ → ℕ → ℕ
product y v = partial 128 y v
