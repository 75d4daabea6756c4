-- What the calls answer.
use Rattle.std.specs.Prelude.{ℕ, cond, List, length, Some, None, Ok, Err, Option, Result, nat_le}
use Rattle.base64_text.specs.declared.decoding.Undecoded.{Undecoded}
use Rattle.base64_text.specs.declared.decoding.Undecoded.TheVariants.{NotCanonical, NoRoom}
use Rattle.base64_text.specs.Base64.{encode}

-- The number of letters that encoding into a buffer writes; none where there is no room.
abbrev pub encoded : List ℕ → List ℕ → Option ℕ
encoded bytes old = cond (nat_le (length (encode bytes)) (length old)) (Some (length (encode bytes))) None

-- The number of bytes that decoding into a buffer writes: the text is looked at first, then the room.
abbrev pub decoded : Option (List ℕ) → List ℕ → Result ℕ Undecoded
decoded None old = Err NotCanonical
decoded (Some xs) old = cond (nat_le (length xs) (length old)) (Ok (length xs)) (Err NoRoom)
