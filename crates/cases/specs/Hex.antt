-- The value of a lower-case hexadecimal digit, and of two.
use Rattle.std.specs.Prelude.{ℕ, ◌+◌, ◌-◌, ◌*◌, cond, ◌&&◌, List, [], ◌∷◌, length, Some, None, Ok, Err, Option, Result, ◌==◌, nat_le, slice_index}
use Rattle.cases.specs.declared.fault.Fault.{Fault}
use Rattle.cases.specs.declared.fault.Fault.TheVariants.{Digit, Empty, Length, Odd}

abbrev pub digit : ℕ → Option ℕ
digit b =
    cond (nat_le 48 b && nat_le b 57) (Some (b - 48)) (cond (nat_le 97 b && nat_le b 102) (Some (b - 87)) None)

-- The byte of two digits, or the first that is none.
abbrev pub with_low : ℕ → ℕ → Option ℕ → Result ℕ Fault
with_low a low (Some b) = Ok (16 * a + b)
with_low a low None = Err (Digit low)

abbrev pub with_high : ℕ → ℕ → Option ℕ → Result ℕ Fault
with_high high low (Some a) = with_low a low (digit low)
with_high high low None = Err (Digit high)

abbrev pub pair : ℕ → ℕ → Result ℕ Fault
pair high low = with_high high low (digit high)

-- The bytes of a string of digits, two for each, or what is wrong with it first.
abbrev pub before : ℕ → Result (List ℕ) Fault → Result (List ℕ) Fault
before b (Ok bs) = Ok (b ∷ bs)
before b (Err e) = Err e

abbrev pub then_decoded : Result ℕ Fault → Result (List ℕ) Fault → Result (List ℕ) Fault
then_decoded (Ok b) rest = before b rest
then_decoded (Err e) rest = Err e

unfoldable pub decoded : List ℕ → Result (List ℕ) Fault
decoded [] = Ok []
decoded (high ∷ []) = Err Odd
decoded (high ∷ low ∷ ds) = then_decoded (pair high low) (decoded ds)

-- The bytes that a word gives: `-` is the word of none.
abbrev pub worded : List ℕ → Result (List ℕ) Fault
worded w = cond (length w == 0) (Err Empty) (cond (length w == 1 && slice_index w 0 == 45) (Ok []) (decoded w))

-- Just n bytes.
abbrev pub exactly : ℕ → Result (List ℕ) Fault → Result (List ℕ) Fault
exactly n (Ok bs) = cond (length bs == n) (Ok bs) (Err (Length n))
exactly n (Err e) = Err e
