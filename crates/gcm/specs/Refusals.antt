-- What decryption into a lent text answers.
use Rattle.std.specs.Prelude.{ℕ, cond, List, length, Some, None, Ok, Err, Option, Result, nat_le}
use Rattle.gcm.specs.declared.refusal.Undecrypted.{Undecrypted}
use Rattle.gcm.specs.declared.refusal.Undecrypted.TheVariants.{WrongTag, NoRoom}

-- A text that there may be goes into a buffer as it was: there is none, or the buffer has no room, in this order.
abbrev pub placing : Option (List ℕ) → List ℕ → Result (Unit {0}) Undecrypted
placing None old = Err WrongTag
placing (Some p) old = cond (nat_le (length p) (length old)) (Ok tt) (Err NoRoom)
