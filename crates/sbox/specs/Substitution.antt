-- The substitution of a byte (FIPS 197, section 5.1.1): its inverse in GF(2^8), then an affine map.
use Rattle.std.specs.Prelude.{◌≡◌, ℕ, zero, suc, ◌+◌, ◌*◌, ◌/◌, ◌%◌, ◌<◌}
use Rattle.std.specs.Int.Bits.{bit_xor}
use Rattle.sbox.specs.Field.{times}

-- y is the multiplicative inverse of x, or both are 0.
abbrev pub Inverse : ℕ → ℕ → Type 0
Inverse x y = (x ≡ 0 → y ≡ 0) × (0 < x → times x y ≡ 1)

-- The inverse as a power, a^254 = a^2 a^4 a^8 a^16 a^32 a^64 a^128; 0 at 0.
unfoldable pub square : ℕ → ℕ
square a = times a a

unfoldable pub powers : ℕ → ℕ → ℕ
powers zero a = 1
powers (suc n) a = times (square a) (powers n (square a))

unfoldable pub inverse : ℕ → ℕ
inverse a = powers 7 a

-- Bit i of the affine map is the sum of the bits i, i + 4, i + 5, i + 6 and i + 7 (modulo 8) of b, and bit i of 99: so b, b turned
-- to the left by one, two, three and four places, and 99 are added.
unfoldable pub turned : ℕ → ℕ
turned b = (b * 2) % 256 + b / 128

unfoldable pub affine : ℕ → ℕ
affine b =
    bit_xor b (bit_xor (turned b) (bit_xor (turned (turned b)) (bit_xor (turned (turned (turned b))) (bit_xor (turned (turned (turned (turned b)))) 99))))

unfoldable pub sub_byte : ℕ → ℕ
sub_byte b = affine (inverse b)
