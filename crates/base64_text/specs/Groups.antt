-- What the parts of encoding and decoding pass to each other.
use Rattle.std.specs.Prelude.{ℕ, List, [], ◌∷◌, length, Option, option_map}
use Rattle.base64_text.specs.declared.decoding.Group.{Group}
use Rattle.base64_text.specs.declared.decoding.Group.TheVariants.{One, Two, Three}
use Rattle.base64_text.specs.Base64.{one, two, three}

-- How many bytes there are, where there are some.
abbrev pub counted : Option (List ℕ) → Option ℕ
counted bytes = option_map length bytes

-- The four letters of the first three bytes, or of fewer.
abbrev pub quad : List ℕ → List ℕ
quad [] = 61 ∷ 61 ∷ 61 ∷ 61 ∷ []
quad (a ∷ []) = one a
quad (a ∷ b ∷ []) = two a b
quad (a ∷ b ∷ c ∷ rest) = three a b c

-- The bytes that a group holds.
abbrev pub held : Group → List ℕ
held (One bs) = bs
held (Two bs) = bs
held (Three bs) = bs
