-- A file cut into fragments, and the law that there is one way to do it.
use Rattle.std.specs.Prelude.{◌≡◌, ℕ, zero, suc, ◌+◌, ◌-◌, ◌/◌, Bool, true, false, ◌&&◌, List, [], ◌∷◌, ◌++◌, map, length, take, drop, replicate}
use Rattle.fragments.specs.Rule.{fits}

-- Fragments joined.
abbrev pub joined : List (List ℕ) → List ℕ
joined [] = []
joined (d ∷ ds) = d ++ joined ds

-- The fragments d and then ds fit one after the other, of a file of s bytes of which n have gone before: the final one as the last.
abbrev pub in_turn : ℕ → ℕ → List ℕ → List (List ℕ) → Bool
in_turn n s d [] = fits n s (length d) true
in_turn n s d (e ∷ ds) = fits n s (length d) false && in_turn (n + length d) s e ds

-- A file cut: full fragments while more than 1,024 bytes are left, and then the rest.
unfoldable pub cut_after : ℕ → List ℕ → List (List ℕ)
cut_after zero xs = xs ∷ []
cut_after (suc full) xs = take 1024 xs ∷ cut_after full (drop 1024 xs)

abbrev pub cut : List ℕ → List (List ℕ)
cut xs = cut_after ((length xs - 1) / 1024) xs

-- Fragments that join to the file and fit in turn are exactly those of the cut.
abbrev pub OneWayToCut : Type 0
OneWayToCut =
    (xs d : List ℕ) (ds : List (List ℕ)) →
    ((joined (d ∷ ds) ≡ xs) × (in_turn 0 (length xs) d ds ≡ true) → d ∷ ds ≡ cut xs)
    × (d ∷ ds ≡ cut xs → (joined (d ∷ ds) ≡ xs) × (in_turn 0 (length xs) d ds ≡ true))

-- The sizes of the fragments of a file of s bytes.
abbrev pub sizes : ℕ → List ℕ
sizes s = map length (cut (replicate s 0))

pub record SizesWorked : Type 0 where
  pub empty : sizes 0 ≡ 0 ∷ []
  pub one : sizes 1 ≡ 1 ∷ []
  pub full : sizes 1024 ≡ 1024 ∷ []
  pub past_full : sizes 1025 ≡ 1024 ∷ 1 ∷ []
  pub two_full : sizes 2048 ≡ 1024 ∷ 1024 ∷ []
  pub scan : sizes 2350 ≡ 1024 ∷ 1024 ∷ 302 ∷ []
