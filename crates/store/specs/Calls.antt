-- What each call of a store answers and leaves, for every input.
use Rattle.std.specs.Prelude.{◌≡◌, ℕ, List, length, Some, None, Option, Result, MatchResult}
use Rattle.std.specs.Option.{option_map}
use Rattle.octets.specs.Fronts.{at_front}
use Rattle.store.specs.Meaning.{Entry, Draft, State, Table, find, contents, size_and_day, next, part, key_at_front, told, with_draft, fresh, grown, stored, without}
use Rattle.store.specs.Refusals.{bad_key, read_refusal, buffer_refusal, open_refusal, remove_refusal, append_refusal, keep_refusal, drop_refusal}
use Rattle.store.specs.declared.fault.StoreFault.{StoreFault}
use Rattle.store.specs.declared.pending.Pending.{Pending}

-- An answer of a call with this refusal: P of the value where there is none, Q where there is one.
abbrev pub Answers : {T : Type 0} → Option StoreFault → Result T StoreFault → (T → Type 0) → Type 0 → Type 0
Answers refusal r P Q = MatchResult r (λ v. (refusal ≡ None) × P v) (λ e. (refusal ≡ Some e) × Q)

-- The same of a call that changes nothing and leaves no buffer.
abbrev pub Tells : {T : Type 0} → Option StoreFault → Result T StoreFault → T → Type 0
Tells refusal r v = MatchResult r (λ w. (refusal ≡ None) × (w ≡ v)) (λ e. refusal ≡ Some e)

abbrev pub Looked : List Entry → List ℕ → Result (Option (ℕ × ℕ)) StoreFault → Type 0
Looked es k r = Tells (bad_key k) r (option_map size_and_day (find k es))

abbrev pub Read : List Entry → List ℕ → ℕ → List ℕ → Result ℕ StoreFault → List ℕ → Type 0
Read es k offset old r buffer =
    Answers (read_refusal es k offset) r
    (λ n. (n ≡ length (part (contents (find k es)) offset old)) × (buffer ≡ at_front (part (contents (find k es)) offset old) old))
    (buffer ≡ old)

abbrev pub Next : List Entry → List ℕ → List ℕ → Result (Option ℕ) StoreFault → List ℕ → Type 0
Next es k old r buffer =
    Answers (buffer_refusal old) r (λ n. (n ≡ option_map length (next k es)) × (buffer ≡ key_at_front (next k es) old)) (buffer ≡ old)

abbrev pub Drafted : State → List ℕ → Result (Option Pending) StoreFault → List ℕ → Type 0
Drafted st old r buffer =
    Answers (buffer_refusal old) r (λ p. (p ≡ option_map told st.draft) × (buffer ≡ key_at_front (option_map (λ d. d.key) st.draft) old)) (buffer ≡ old)

-- A question to one of the two tables.
abbrev pub Asked : Table → List ℕ → ℕ → Result (Option ℕ) StoreFault → Type 0
Asked t k n r = Tells (bad_key k) r (t k n)

-- A call that changes the draft alone, into d: entries and tables stay.
abbrev pub Redrafted : Option StoreFault → Result (Unit {0}) StoreFault → List Entry → State → List Entry → State → Option Draft → Type 0
Redrafted refusal r es st es' st' d = (es' ≡ es) × Answers refusal r (λ _. st' ≡ with_draft st d) (st' ≡ st)

abbrev pub Opened : List Entry → State → List ℕ → ℕ → ℕ → Result (Unit {0}) StoreFault → List Entry → State → Type 0
Opened es st k n day r es' st' = Redrafted (open_refusal es st k n) r es st es' st' (Some (fresh k n day))

abbrev pub Appended : List Entry → State → List ℕ → Result (Unit {0}) StoreFault → List Entry → State → Type 0
Appended es st bs r es' st' = Redrafted (append_refusal st.draft bs) r es st es' st' (option_map (λ d. grown d bs) st.draft)

abbrev pub Dropped : List Entry → State → Result (Unit {0}) StoreFault → List Entry → State → Type 0
Dropped es st r es' st' = Redrafted (drop_refusal st.draft) r es st es' st' None

-- The tables after these two are each store's own.
abbrev pub Kept : List Entry → State → Result (Unit {0}) StoreFault → List Entry → State → Type 0
Kept es st r es' st' =
    Answers (keep_refusal st.draft) r (λ _. (es' ≡ stored st.draft es) × (st'.draft ≡ None)) ((es' ≡ es) × (st' ≡ st))

abbrev pub Removed : List Entry → State → List ℕ → ℕ → Result (Unit {0}) StoreFault → List Entry → State → Type 0
Removed es st k day r es' st' =
    Answers (remove_refusal es st k day) r (λ _. (es' ≡ without k es) × (st'.draft ≡ None)) ((es' ≡ es) × (st' ≡ st))
