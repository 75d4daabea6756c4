-- Bytes as the elements of GF(2^8) (FIPS 197, section 4): bit i is the coefficient of x^i, modulo x^8 + x^4 + x^3 + x + 1.
use Rattle.std.specs.Prelude.{ℕ, zero, suc, ◌*◌, ◌/◌, ◌%◌, cond, eqb, ltb}
use Rattle.std.specs.Int.Bits.{bit_xor}

-- Times x: a shift to the left, and the modulus, 283, taken off where the degree reaches 8.
unfoldable pub xtime : ℕ → ℕ
xtime a = cond (ltb a 128) (a * 2) (bit_xor (a * 2) 283)

-- a times the n low bits of b.
unfoldable pub times_bits : ℕ → ℕ → ℕ → ℕ
times_bits zero a b = 0
times_bits (suc n) a b = bit_xor (cond (eqb (b % 2) 1) a 0) (times_bits n (xtime a) (b / 2))

unfoldable pub times : ℕ → ℕ → ℕ
times a b = times_bits 8 a b
