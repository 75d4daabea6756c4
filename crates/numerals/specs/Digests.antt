-- Lower-case hexadecimal text as the bytes that it stands for.
use Rattle.std.specs.Prelude.{ℕ, ◌+◌, ◌-◌, ◌*◌, Bool, cond, ◌&&◌, List, [], ◌∷◌, length, Some, None, Option, ◌==◌, nat_le}

-- What a character stands for: '0' to '9' are 48 to 57, and 'a' to 'f', which stand for 10 to 15, are 97 to 102.
abbrev pub digit_of : ℕ → Option ℕ
digit_of c = cond (nat_le 48 c && nat_le c 57) (Some (c - 48)) (cond (nat_le 97 c && nat_le c 102) (Some (c - 87)) None)

-- The byte of two digits, the higher first.
abbrev pub byte_of : Option ℕ → Option ℕ → Option ℕ
byte_of None low = None
byte_of (Some h) None = None
byte_of (Some h) (Some l) = Some (h * 16 + l)

-- A byte with the bytes after it, where there are both.
abbrev pub joined : Option ℕ → Option (List ℕ) → Option (List ℕ)
joined None rest = None
joined (Some b) None = None
joined (Some b) (Some bs) = Some (b ∷ bs)

-- The bytes of a text, two characters each.
unfoldable pub bytes_of : List ℕ → Option (List ℕ)
bytes_of [] = Some []
bytes_of (a ∷ []) = None
bytes_of (a ∷ b ∷ t) = joined (byte_of (digit_of a) (digit_of b)) (bytes_of t)

-- A digest's text has 64 characters.
abbrev pub sized : List ℕ → Bool
sized t = length t == 64

-- The digest that a text stands for.
unfoldable pub digest_of : List ℕ → Option (List ℕ)
digest_of t = cond (sized t) (bytes_of t) None
