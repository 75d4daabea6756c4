-- Bytes as lower-case hexadecimal text, two characters for each byte, the higher digit first.
use Rattle.std.specs.Prelude.{ℕ, ◌+◌, ◌/◌, ◌%◌, cond, List, [], ◌∷◌, nat_lt}

-- The character of a digit: '0' is 48, and 'a', which stands for 10, is 97.
abbrev pub digit : ℕ → ℕ
digit d = cond (nat_lt d 10) (48 + d) (87 + d)

unfoldable pub hexadecimal : List ℕ → List ℕ
hexadecimal [] = []
hexadecimal (b ∷ bs) = digit (b / 16) ∷ digit (b % 16) ∷ hexadecimal bs
