-- Bytes at the front of a lent buffer.
use Rattle.std.specs.Prelude.{ℕ, Bool, false, cond, List, ◌++◌, length, drop, Some, None, Option, nat_le}

-- Bytes at the front of a buffer, whose rest stays.
abbrev pub at_front : List ℕ → List ℕ → List ℕ
at_front xs old = xs ++ drop (length xs) old

-- Bytes that there may be: they are there and have room, and the buffer with them at its front, or as it was.
abbrev pub fits : Option (List ℕ) → List ℕ → Bool
fits None old = false
fits (Some p) old = nat_le (length p) (length old)

abbrev pub placed : Option (List ℕ) → List ℕ → List ℕ
placed None old = old
placed (Some p) old = cond (nat_le (length p) (length old)) (at_front p old) old
