-- PBKDF2 (RFC 8018, section 5.2) with HMAC-SHA-256 and a derived key of 32 bytes, which is its first block.
use Rattle.std.specs.Prelude.{ℕ, zero, suc, ◌-◌, List, [], ◌∷◌, ◌++◌, bit_xor}
use Rattle.std.specs.Simd.Lanes.{zip2}
use Rattle.mac.specs.Hmac.{hmac}

-- Two lists of bytes, xored place by place.
abbrev pub xors : List ℕ → List ℕ → List ℕ
xors t u = zip2 bit_xor t u

-- U of iteration j + 1, for the password p and the salt s: the first is of the salt and the block's number, 1.
unfoldable pub iterated : List ℕ → List ℕ → ℕ → List ℕ
iterated p s zero = hmac p (s ++ 0 ∷ 0 ∷ 0 ∷ 1 ∷ [])
iterated p s (suc j) = hmac p (iterated p s j)

-- U of the first j + 1 iterations, xored.
unfoldable pub folded : List ℕ → List ℕ → ℕ → List ℕ
folded p s zero = iterated p s 0
folded p s (suc j) = xors (folded p s j) (iterated p s (suc j))

-- The derived key after n iterations. The standard has at least one; 0 counts as 1.
unfoldable pub pbkdf2 : List ℕ → List ℕ → ℕ → List ℕ
pbkdf2 p s n = folded p s (n - 1)
