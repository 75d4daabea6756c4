-- Go-aheads are read back from their texts, and no other text is read.
use Rattle.std.proofs.Common.{◌≡◌, ℕ, Bool, true, false, cond, List, [], ◌∷◌, length, Some, None, Ok, codes, sym, refl, ap, ◌∙◌}
use Rattle.fields.specs.Cuts.{cut, fields, joined}
use Rattle.fields.specs.Takes.{taken, ended, writing, must}
use Rattle.fields.proofs.Ends.{none_not_some}
use Rattle.fields.proofs.Joins.{joined_of_cut}
use Rattle.octets.specs.Equality.{same}
use Rattle.octets.proofs.Agreement.{same_decides}
use Rattle.payloads.specs.declared.go_ahead.GoAhead.{GoAhead}
use Rattle.payloads.specs.declared.go_ahead.GoAhead.TheVariants.{Ready, Cancel}
use Rattle.payloads.specs.Signals.{signal_text, signal, signal_of}
use Rattle.payloads.specs.Laws.{where_room, SignalsReadBack}
use Rattle.payloads.proofs.Undone.{texts, texts-placed, step, was_taken, was_end, was_some}

signal-written : (g : GoAhead) (room : ℕ) → writing (signal_text g ∷ []) true room ≡ where_room (signal_text g ∷ []) room
signal-written Ready room = refl
signal-written Cancel room = refl

signal_back : (g : GoAhead) → signal_of (joined (signal_text g ∷ [])) ≡ Ok g
unfolding same
signal_back Ready = refl
signal_back Cancel = refl

-- A field that is read as a go-ahead is its word.
word_only : (f : List ℕ) (g : GoAhead) → signal f ≡ Some g → f ≡ signal_text g
word_only f g h = first (same f (codes "ready")) refl h
  where
    second : (b : Bool) → same f (codes "cancel") ≡ b → cond b (Some Cancel) None ≡ Some g → f ≡ signal_text g
    second true e h = let q : Cancel ≡ g = cc in (same_decides f (codes "cancel")).0 e ∙ ap signal_text q
    second false e h = absurd (none_not_some g h)

    first : (b : Bool) → same f (codes "ready") ≡ b → cond b (Some Ready) (cond (same f (codes "cancel")) (Some Cancel) None) ≡ Some g → f ≡ signal_text g
    first true e h = let q : Ready ≡ g = cc in (same_decides f (codes "ready")).0 e ∙ ap signal_text q
    first false e h = second (same f (codes "cancel")) refl h

signal_only : (t : List ℕ) (g : GoAhead) → signal_of t ≡ Ok g → t ≡ joined (signal_text g ∷ [])
signal_only t g h =
    step (taken (length t) 1 (fields t)) _ g h (λ a a-is h.
    step (must 1 a.0 (signal a.0.bytes)) _ g h (λ x x-is h.
    step (ended 2 a.1) _ g h (λ o last h.
    let c : cut t ≡ a.0.bytes ∷ [] = sym (texts-placed 0 (cut t)) ∙ ap texts (was_taken (length t) 1 (fields t) a a-is) ∙ ap (λ ps. a.0.bytes ∷ texts ps) (was_end 2 a.1 o last) in
    let q : x ≡ g = cc in
    sym (joined_of_cut t).0 ∙ ap joined c ∙ ap (λ f. joined (f ∷ [])) (word_only a.0.bytes x (was_some 1 a.0 _ x x-is) ∙ ap signal_text q))))

pub signals_read_back : SignalsReadBack
signals_read_back = record { written = signal-written; back = signal_back; only = signal_only }
