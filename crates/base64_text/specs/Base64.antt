-- Base64 with padding (RFC 4648, section 4): three bytes as four letters.
use Rattle.std.specs.Prelude.{ℕ, ◌+◌, ◌-◌, ◌*◌, ◌/◌, ◌%◌, Bool, cond, ◌&&◌, List, [], ◌∷◌, ◌++◌, length, Some, None, Option, ◌==◌, nat_le, nat_lt}

-- The letter of a number below 64: 'A' is 65, 'a' is 97, '0' is 48, '+' is 43, '/' is 47.
abbrev pub letter : ℕ → ℕ
letter n = cond (nat_lt n 26) (65 + n) (cond (nat_lt n 52) (97 + (n - 26)) (cond (nat_lt n 62) (48 + (n - 52)) (cond (n == 62) 43 47)))

-- The number that a letter stands for.
abbrev pub value : ℕ → Option ℕ
value c =
    cond (nat_le 65 c && nat_le c 90) (Some (c - 65))
    (cond (nat_le 97 c && nat_le c 122) (Some (c - 97 + 26))
    (cond (nat_le 48 c && nat_le c 57) (Some (c - 48 + 52))
    (cond (c == 43) (Some 62) (cond (c == 47) (Some 63) None))))

-- The letters of one byte, of two and of three, six bits each; '=', which is 61, fills up to four.
abbrev pub one : ℕ → List ℕ
one a = letter (a / 4) ∷ letter (a % 4 * 16) ∷ 61 ∷ 61 ∷ []

abbrev pub two : ℕ → ℕ → List ℕ
two a b = letter (a / 4) ∷ letter (a % 4 * 16 + b / 16) ∷ letter (b % 16 * 4) ∷ 61 ∷ []

abbrev pub three : ℕ → ℕ → ℕ → List ℕ
three a b c = letter (a / 4) ∷ letter (a % 4 * 16 + b / 16) ∷ letter (b % 16 * 4 + c / 64) ∷ letter (c % 64) ∷ []

-- The text of bytes.
unfoldable pub encode : List ℕ → List ℕ
encode [] = []
encode (a ∷ []) = one a
encode (a ∷ b ∷ []) = two a b
encode (a ∷ b ∷ c ∷ rest) = three a b c ++ encode rest

-- The byte of two letters' numbers; the four bits that are left over are zero.
abbrev pub one_byte : Option ℕ → Option ℕ → Option (List ℕ)
one_byte None y = None
one_byte (Some x) None = None
one_byte (Some x) (Some y) = cond (y % 16 == 0) (Some ((x * 4 + y / 16) ∷ [])) None

-- The bytes of three letters' numbers; the two bits that are left over are zero.
abbrev pub two_bytes : Option ℕ → Option ℕ → Option ℕ → Option (List ℕ)
two_bytes None y z = None
two_bytes (Some x) None z = None
two_bytes (Some x) (Some y) None = None
two_bytes (Some x) (Some y) (Some z) = cond (z % 4 == 0) (Some ((x * 4 + y / 16) ∷ (y % 16 * 16 + z / 4) ∷ [])) None

-- The bytes of four letters' numbers.
abbrev pub three_bytes : Option ℕ → Option ℕ → Option ℕ → Option ℕ → Option (List ℕ)
three_bytes None y z w = None
three_bytes (Some x) None z w = None
three_bytes (Some x) (Some y) None w = None
three_bytes (Some x) (Some y) (Some z) None = None
three_bytes (Some x) (Some y) (Some z) (Some w) = Some ((x * 4 + y / 16) ∷ (y % 16 * 16 + z / 4) ∷ (z % 4 * 64 + w) ∷ [])

-- The bytes of four characters; only the last four of a text may be padded.
abbrev pub group : Bool → ℕ → ℕ → ℕ → ℕ → Option (List ℕ)
group last a b c d =
    cond (last && d == 61)
    (cond (c == 61) (one_byte (value a) (value b)) (two_bytes (value a) (value b) (value c)))
    (three_bytes (value a) (value b) (value c) (value d))

-- Bytes before bytes, where both are there.
abbrev pub before : Option (List ℕ) → Option (List ℕ) → Option (List ℕ)
before None ys = None
before (Some xs) None = None
before (Some xs) (Some ys) = Some (xs ++ ys)

-- The bytes of a text; none of a text that is no encoding.
unfoldable pub decode : List ℕ → Option (List ℕ)
decode [] = Some []
decode (a ∷ []) = None
decode (a ∷ b ∷ []) = None
decode (a ∷ b ∷ c ∷ []) = None
decode (a ∷ b ∷ c ∷ d ∷ rest) = before (group (length rest == 0) a b c d) (decode rest)
