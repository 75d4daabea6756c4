-- Decimal text as the number that it stands for.
use Rattle.std.specs.Prelude.{ℕ, ◌+◌, ◌-◌, ◌*◌, Bool, true, false, cond, not, ◌&&◌, List, [], ◌∷◌, Some, None, Option, ◌==◌, nat_le, nat_lt}

-- A digit: '0' to '9' are 48 to 57.
abbrev pub is_digit : ℕ → Bool
is_digit c = nat_le 48 c && nat_le c 57

-- No other character than digits.
unfoldable pub only_digits : List ℕ → Bool
only_digits [] = true
only_digits (c ∷ t) = is_digit c && only_digits t

-- Some character, and no leading zero except in "0" itself.
abbrev pub plain : List ℕ → Bool
plain [] = false
plain (c ∷ []) = true
plain (c ∷ d ∷ t) = not (c == 48)

-- The number that digits write after those of n.
unfoldable pub number_after : ℕ → List ℕ → ℕ
number_after n [] = n
number_after n (c ∷ t) = number_after (n * 10 + (c - 48)) t

-- The number below k that a text stands for, as f shows it.
unfoldable pub decimal_as : {N : Type 0} → (ℕ → N) → ℕ → List ℕ → Option N
decimal_as f k t = cond (plain t && (only_digits t && nat_lt (number_after 0 t) k)) (Some (f (number_after 0 t))) None

-- The number below k that a text stands for.
abbrev pub decimal_of : ℕ → List ℕ → Option ℕ
decimal_of k t = decimal_as (λ n. n) k t
