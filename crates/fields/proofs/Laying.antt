-- A text laid out from its fields.
use Rattle.std.proofs.Common.{◌≡◌, ℕ, ◌+◌, ◌-◌, ◌<◌, ◌≤◌, Bool, true, false, not, ◌&&◌, ◌||◌, eqb, List, [], ◌∷◌, ◌++◌, length, get_or, take, drop, sym, refl, ap, ◌∙◌, append_assoc, arith, Bor}
use Rattle.std.specs.List.{list_any, list_all}
use Rattle.octets.specs.Fronts.{at_front}
use Rattle.std.proofs.lemmas.List.{append-nil, drop_more, drop_all, drop_at, drop-drop, length-append, length-drop, length-take, take-append-drop, take_at}
use Rattle.std.proofs.lemmas.Slice.{drop-append-drop, first_rest}
use Rattle.fields.specs.Cuts.{led, joined, unbroken, all_unbroken}
use Rattle.fields.specs.Takes.{lists}

-- A field without byte 10, and fields without it.
pub no_ten : (t : List ℕ) → not (list_any (λ b. eqb b 10) t) ≡ unbroken t
no_ten [] = refl
no_ten (b ∷ t) = by (eqb b 10) (no_ten t)
  where
    by : (q : Bool) → not (list_any (λ b. eqb b 10) t) ≡ unbroken t → not (q || list_any (λ b. eqb b 10) t) ≡ not q && unbroken t
    by true e = refl
    by false e = e

pub each_unbroken : (fs : List (Bor (List ℕ))) → list_all (λ f. unbroken f.now) fs ≡ all_unbroken (lists fs)
each_unbroken [] = refl
each_unbroken (f ∷ fs) = ap (λ q. unbroken f.now && q) (each_unbroken fs)

-- What the checker reads past a list of slices.
abbrev pub none : Bor (List ℕ)
none = record { ref_ptr = (0, 0); now = [] }

module _ (fs : List (Bor (List ℕ))) (i : ℕ) where
  -- How many bytes are left, with that field and after it.
  pub led_more : i < length fs → length (led (lists (drop i fs))) ≡ length (get_or fs i none).now + 1 + length (led (lists (drop (i + 1) fs)))
  led_more h =
      let d = drop_more fs i none h in
      let a = length-append (get_or fs i none).now (led (lists (drop (i + 1) fs))) in
      rw d (omega arith)

-- The text so far, and the rest of the output as it was.
pub record Laid (first : List ℕ) (rest : List (Bor (List ℕ))) (i at : ℕ) (out old : List ℕ) : Type 0 where
  pub begun : length first ≤ at
  pub room : at ≤ length out
  pub text : take at out ++ led (lists (drop i rest)) ≡ joined (first ∷ lists rest)
  pub same : drop at out ≡ drop at old

module _ (first : List ℕ) (rest : List (Bor (List ℕ))) where
  -- There is room for the next field.
  pub laid_room : (i at : ℕ) (out old : List ℕ) → i < length rest → Laid first rest i at out old → length (joined (first ∷ lists rest)) ≤ length out
      → at + 1 + length (get_or rest i none).now ≤ length out
  laid_room i at out old h l r =
      let m = led_more rest i h in
      let e : length (take at out) + length (led (lists (drop i rest))) ≡ length (joined (first ∷ lists rest)) = sym (length-append (take at out) (led (lists (drop i rest)))) ∙ ap length l.text in
      let b = l.room in
      let k : length (take at out) ≡ at = simp length-take (omega arith) in
      omega arith

  pub laid_more : (i at at' : ℕ) (out out' old : List ℕ) → i < length rest → Laid first rest i at out old → at + 1 + length (get_or rest i none).now ≤ length out
      → at' ≡ at + 1 + length (get_or rest i none).now
      → out' ≡ take at out ++ (10 ∷ ((get_or rest i none).now ++ drop (at + 1 + length (get_or rest i none).now) out))
      → Laid first rest (i + 1) at' out' old
  laid_more i at at' out out' old h l r ea eo =
      let k : length (take at out) ≡ at = simp length-take (omega arith) in
      let lp : length (take at out ++ (10 ∷ (get_or rest i none).now)) ≡ at + 1 + length (get_or rest i none).now = length-append (take at out) (10 ∷ (get_or rest i none).now) ∙ omega arith in
      let e : out' ≡ (take at out ++ (10 ∷ (get_or rest i none).now)) ++ drop (at + 1 + length (get_or rest i none).now) out = eo ∙ sym (append_assoc (take at out) (10 ∷ (get_or rest i none).now) (drop (at + 1 + length (get_or rest i none).now) out)) in
      let t : take (at + 1 + length (get_or rest i none).now) out' ≡ take at out ++ (10 ∷ (get_or rest i none).now) = rw e (take_at (take at out ++ (10 ∷ (get_or rest i none).now)) (drop (at + 1 + length (get_or rest i none).now) out) (at + 1 + length (get_or rest i none).now) lp) in
      let d : drop (at + 1 + length (get_or rest i none).now) out' ≡ drop (at + 1 + length (get_or rest i none).now) out = rw e (drop_at (take at out ++ (10 ∷ (get_or rest i none).now)) (drop (at + 1 + length (get_or rest i none).now) out) (at + 1 + length (get_or rest i none).now) lp) in
      let s : drop (at + 1 + length (get_or rest i none).now) out ≡ drop (at + 1 + length (get_or rest i none).now) old = on l.same in
      let m = drop_more rest i none h in
      let w : take at out ++ (10 ∷ ((get_or rest i none).now ++ led (lists (drop (i + 1) rest)))) ≡ joined (first ∷ lists rest) = rw m at l.text in
      record {
        begun = omega (arith, l.begun);
        room = rw (ea, e, length-append, lp) (omega arith);
        text = rw (ea, t, append_assoc) w;
        same = rw ea (d ∙ s);
      }
    where
      on : drop at out ≡ drop at old → drop (at + 1 + length (get_or rest i none).now) out ≡ drop (at + 1 + length (get_or rest i none).now) old
      on e =
          let n : at + 1 + length (get_or rest i none).now ≡ at + (1 + length (get_or rest i none).now) = omega arith in
          rw (n, ← drop-drop (1 + length (get_or rest i none).now) at out, ← drop-drop (1 + length (get_or rest i none).now) at old, e)

  -- The output keeps its length from the first field on.
  pub still_room : (out x old : List ℕ) (k : ℕ) → x ≡ first → k ≡ length first → length out ≡ length (x ++ drop k old)
      → length (joined (first ∷ lists rest)) ≤ length old → length (joined (first ∷ lists rest)) ≤ length out
  still_room out x old k e ek n r =
      let a = length-append first (led (lists rest)) in
      let b = length-append x (drop k old) in
      let d = length-drop k old in
      let f = ap length e in
      omega arith

  pub laid_done : (i at k : ℕ) (out x old : List ℕ) → length rest ≤ i → x ≡ first → k ≡ length first → Laid first rest i at out (x ++ drop k old)
      → out ≡ at_front (joined (first ∷ lists rest)) old
  laid_done i at k out x old h e ek l =
      let t : take at out ≡ joined (first ∷ lists rest) = rw (drop_all i rest h, append-nil) at l.text in
      let b = l.room in
      let w = l.begun in
      let m : length (take at out) ≡ at = simp length-take (omega arith) in
      let n : at ≡ length (joined (first ∷ lists rest)) = sym m ∙ ap length t in
      let s = drop-append-drop k old x at (omega arith) (ap length e ∙ sym ek) in
      let o : out ≡ joined (first ∷ lists rest) ++ drop at old = sym (take-append-drop at out) ∙ rw (t, l.same, s) in
      o ∙ ap (λ z. joined (first ∷ lists rest) ++ drop z old) n

-- A list by its first and its other elements, as the checker reads them.
pub by_first : (fs : List (Bor (List ℕ))) → 0 < length fs → lists fs ≡ (get_or fs 0 none).now ∷ lists (take (length fs - 1) (drop 1 fs))
by_first fs h = ap lists (first_rest fs none h)
