-- Fields taken from a text one by one, and a text written from fields.
use Rattle.std.specs.Prelude.{ℕ, Bool, cond, not, ◌&&◌, List, [], ◌∷◌, map, length, drop, is_some, is_ok, Some, None, Ok, Err, Option, Result, ◌==◌, nat_le}
use Rattle.std.specs.Borrow.{Bor}
use Rattle.octets.specs.Fronts.{at_front}
use Rattle.std.specs.Option.{ok_or}
use Rattle.fields.specs.declared.field.Field.{Field}
use Rattle.fields.specs.declared.field.Fields.{Fields}
use Rattle.fields.specs.declared.field.Place.{Place}
use Rattle.fields.specs.declared.refusal.WrongField.{WrongField}
use Rattle.fields.specs.declared.refusal.TextRefusal.{TextRefusal}
use Rattle.fields.specs.declared.refusal.TextRefusal.TheVariants.{Buffer, Form}
use Rattle.fields.specs.Cuts.{Piece, cut, placed, joined, all_unbroken}

-- What a Field stands for.
abbrev pub piece : Field → Piece
piece f = record { start = f.place.start; end = f.place.end; bytes = f.bytes.now }

-- Where it stands.
abbrev pub place : Piece → Place
place p = record { start = p.start; end = p.end }

-- The fields of a text from a place on, if there is one.
abbrev pub from : List ℕ → Option ℕ → List Piece
from t None = []
from t (Some at) = placed at (cut (drop at t))

-- The fields that are left, and where their text ends.
abbrev pub left : Fields → List Piece
left f = from f.text.now f.next

abbrev pub ending : Fields → ℕ
ending f = length f.text.now

-- Field number n, which starts at a place, is wrong.
abbrev pub wrong : ℕ → ℕ → WrongField
wrong n at = record { field = n; place = at }

-- A result by what it stands for, and a result that another step goes on from.
abbrev pub shown : {X Y E : Type 0} → (X → Y) → Result X E → Result Y E
shown f (Ok x) = Ok (f x)
shown f (Err e) = Err e

abbrev pub and_then : {X Y E : Type 0} → Result X E → (X → Result Y E) → Result Y E
and_then (Ok x) f = f x
and_then (Err e) f = Err e

-- A field that must be something: that, or field number n is wrong; and one that must pass a test.
abbrev pub must : {X : Type 0} → ℕ → Piece → Option X → Result X WrongField
must n p o = ok_or o (wrong n p.start)

abbrev pub pass : ℕ → Piece → Bool → Result (Unit {0}) WrongField
pass n p b = cond b (Ok tt) (Err (wrong n p.start))

-- The next field, which is number n, and those after it; a missing field is where the text ends.
abbrev pub taken : ℕ → ℕ → List Piece → Result (Piece × List Piece) WrongField
taken end n [] = Err (wrong n end)
taken end n (p ∷ ps) = Ok (p, ps)

-- Where the first of some fields starts, if there is one.
abbrev pub starts : List Piece → Option ℕ
starts [] = None
starts (p ∷ ps) = Some p.start

-- A field that is left, which would be number n, is wrong.
abbrev pub surplus : ℕ → Option ℕ → Result (Unit {0}) WrongField
surplus n None = Ok tt
surplus n (Some at) = Err (wrong n at)

-- No field is left, which would be number n.
abbrev pub ended : ℕ → List Piece → Result (Unit {0}) WrongField
ended n ps = surplus n (starts ps)

-- A field which byte 10 follows: another one starts behind it.
abbrev pub followed : ℕ → Piece × List Piece → Result (Piece × List Piece) WrongField
followed n x = cond (is_some (starts x.1)) (Ok x) (Err (wrong n x.0.start))

abbrev pub taken_closed : ℕ → ℕ → List Piece → Result (Piece × List Piece) WrongField
taken_closed end n ps = and_then (taken end n ps) (followed n)

-- The text ends behind the byte 10 of its last field: an empty rest, and no more.
abbrev pub empty : ℕ → Piece × List Piece → Result (Unit {0}) WrongField
empty n x = cond (length x.0.bytes == 0 && not (is_some (starts x.1))) (Ok tt) (Err (wrong n x.0.start))

abbrev pub ended_closed : ℕ → ℕ → List Piece → Result (Unit {0}) WrongField
ended_closed end n ps = and_then (taken end n ps) (empty n)

-- A field and the fields after it, by what they stand for.
abbrev pub cut_off : Field × Fields → Piece × List Piece
cut_off x = (piece x.0, left x.1)

-- The lists behind some slices.
abbrev pub lists : List (Bor (List ℕ)) → List (List ℕ)
lists parts = map (λ x. x.now) parts

-- What writing a text answers where there is room for that many bytes: refusal 3 if the text does not fit; refusal 5 if its fields are
-- said not to be well-formed, one has byte 10 inside, or it is over 4,096 bytes; else its length.
abbrev pub writing : List (List ℕ) → Bool → ℕ → Result ℕ TextRefusal
writing fs formed room =
    cond (nat_le (length (joined fs)) room)
    (cond (formed && (all_unbroken fs && nat_le (length (joined fs)) 4096)) (Ok (length (joined fs))) (Err Form))
    (Err Buffer)

-- The buffer afterwards: the text at its front, or as it was.
abbrev pub buffer_after : List (List ℕ) → Bool → List ℕ → List ℕ
buffer_after fs formed old = cond (is_ok (writing fs formed (length old))) (at_front (joined fs) old) old
