-- Names, and users, as tests.
use Rattle.std.specs.Prelude.{ℕ, Bool, not, ◌&&◌, ◌||◌, List, [], ◌∷◌, length, ◌==◌, nat_le}
use Rattle.std.specs.List.{list_all}
use Rattle.octets.specs.Equality.{same}

-- The alphabet: A to Z, a to z, 0 to 9, hyphen, dot and underscore.
abbrev pub letter : ℕ → Bool
letter b =
    (nat_le 65 b && nat_le b 90) || ((nat_le 97 b && nat_le b 122) || ((nat_le 48 b && nat_le b 57) || (b == 45 || (b == 46 || b == 95))))

-- Every byte is a letter.
unfoldable pub letters : List ℕ → Bool
letters t = list_all letter t

-- Every byte is a letter, and the bytes are not "." or "..".
abbrev pub plain : List ℕ → Bool
plain t = letters t && (not (same t (46 ∷ [])) && not (same t (46 ∷ 46 ∷ [])))

-- The same of 1 to `most` bytes.
abbrev pub plain_up_to : ℕ → List ℕ → Bool
plain_up_to most t = nat_le 1 (length t) && (nat_le (length t) most && plain t)

-- A name has 1 to 32 bytes.
abbrev pub name : List ℕ → Bool
name t = plain_up_to 32 t

-- A user has 1 to 16 bytes.
abbrev pub user : List ℕ → Bool
user t = plain_up_to 16 t
