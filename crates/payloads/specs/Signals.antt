-- Go-aheads, their texts, and what a text is read as.
use Rattle.std.specs.Prelude.{ℕ, cond, List, length, Some, None, Ok, codes, Option, Result}
use Rattle.fields.specs.Cuts.{Piece, fields}
use Rattle.fields.specs.Takes.{and_then, taken, ended, must}
use Rattle.fields.specs.declared.refusal.WrongField.{WrongField}
use Rattle.octets.specs.Equality.{same}
use Rattle.payloads.specs.declared.go_ahead.GoAhead.{GoAhead}
use Rattle.payloads.specs.declared.go_ahead.GoAhead.TheVariants.{Ready, Cancel}

-- Its word, which is its only field.
abbrev pub signal_text : GoAhead → List ℕ
signal_text Ready = codes "ready"
signal_text Cancel = codes "cancel"

-- The go-ahead that a field is, if it is one.
abbrev pub signal : List ℕ → Option GoAhead
signal f = cond (same f (codes "ready")) (Some Ready) (cond (same f (codes "cancel")) (Some Cancel) None)

-- One word, of a text that ends at a place.
abbrev pub signal_from : ℕ → List Piece → Result GoAhead WrongField
signal_from end ps =
    and_then (taken end 1 ps) (λ word.
    and_then (must 1 word.0 (signal word.0.bytes)) (λ g.
    and_then (ended 2 word.1) (λ _. Ok g)))

-- The go-ahead that a text is, or its first wrong field.
abbrev pub signal_of : List ℕ → Result GoAhead WrongField
signal_of t = signal_from (length t) (fields t)
