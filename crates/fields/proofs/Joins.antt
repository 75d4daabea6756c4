-- Cutting and joining undo each other.
use Rattle.std.proofs.Common.{◌≡◌, ℕ, ◌+◌, ◌-◌, Bool, true, false, cond, not, eqb, List, [], ◌∷◌, ◌++◌, length, drop, sym, refl, ◌∙◌, append_assoc, arith}
use Rattle.std.specs.List.{between, AllByRecursion}
use Rattle.std.proofs.lemmas.List.{append-nil, drop_at, length-append, take_at}
use Rattle.std.proofs.lemmas.Bool.{and_parts, not-true, eqb-true}
use Rattle.fields.specs.Cuts.{onto, cut, led, joined, unbroken, all_unbroken, CutOfJoined, JoinedOfCut, placed, FieldsStand}
use Rattle.fields.proofs.Steps.{glue, glue-none}

-- A field without byte 10 before a text belongs to the text's first field.
cut-before : (f t : List ℕ) → unbroken f ≡ true → cut (f ++ t) ≡ glue f (cut t)
cut-before [] t u = sym (glue-none t)
cut-before (b ∷ f) t u =
    let p = and_parts (not (eqb b 10)) (unbroken f) u in
    let n = not-true (eqb b 10) p.0 in
    rw (n, cut-before f t p.1) (on (cut t))
  where
    on : (fs : List (List ℕ)) → onto b (glue f fs) ≡ glue (b ∷ f) fs
    on [] = refl
    on (g ∷ gs) = refl

pub cut_of_joined : CutOfJoined
cut_of_joined f [] u = let p = and_parts (unbroken f) true u in rw (cut-before f [] p.0, append-nil)
cut_of_joined f (g ∷ gs) u =
    let p = and_parts (unbroken f) (all_unbroken (g ∷ gs)) u in
    rw (cut-before f (10 ∷ (g ++ led gs)) p.0, append-nil, cut_of_joined g gs p.1)

-- A text has a first field.
pub cut_some : (t : List ℕ) → (f : List ℕ) × ((fs : List (List ℕ)) × (cut t ≡ f ∷ fs))
cut_some [] = ([], ([], refl))
cut_some (b ∷ bs) = by (eqb b 10)
  where
    on : (fs : List (List ℕ)) → (f : List ℕ) × ((gs : List (List ℕ)) × (onto b fs ≡ f ∷ gs))
    on [] = (b ∷ [], ([], refl))
    on (f ∷ fs) = (b ∷ f, (fs, refl))

    by : (q : Bool) → (f : List ℕ) × ((fs : List (List ℕ)) × (cond q ([] ∷ cut bs) (onto b (cut bs)) ≡ f ∷ fs))
    by true = ([], (cut bs, refl))
    by false = on (cut bs)

-- One byte before a text that is joined again from its fields.
joined-more : (b : ℕ) (bs f : List ℕ) (fs : List (List ℕ)) (q : Bool) → eqb b 10 ≡ q → joined (f ∷ fs) ≡ bs → all_unbroken (f ∷ fs) ≡ true
    → (joined (cond q ([] ∷ f ∷ fs) (onto b (f ∷ fs))) ≡ b ∷ bs) × (all_unbroken (cond q ([] ∷ f ∷ fs) (onto b (f ∷ fs))) ≡ true)
joined-more b bs f fs true e j u = let t = eqb-true b 10 e in (rw (t, j), u)
joined-more b bs f fs false e j u =
    let p = and_parts (unbroken f) (all_unbroken fs) u in
    (rw j, rw (e, p.0, p.1))

pub joined_of_cut : JoinedOfCut
joined_of_cut [] = (refl, refl)
joined_of_cut (b ∷ bs) =
    let (f, (fs, e)) = cut_some bs in
    let ih = joined_of_cut bs in
    rw e (joined-more b bs f fs (eqb b 10) refl (rw e at ih.0) (rw e at ih.1))

-- A field between what stands before and what comes after.
here : (f after before : List ℕ) (at : ℕ) (t : List ℕ) → length before ≡ at → t ≡ before ++ (f ++ after) → between at (at + length f) t ≡ f
here f after before at t l e =
    let k : at + length f - at ≡ length f = omega arith in
    let d : drop at t ≡ f ++ after = rw e (drop_at before (f ++ after) at l) in
    rw (k, d) (take_at f after (length f) refl)

-- Fields behind some bytes stand where those end.
stand : (before : List ℕ) (fs : List (List ℕ)) (at : ℕ) (t : List ℕ) → length before ≡ at → t ≡ before ++ joined fs
    → AllByRecursion (λ p. between p.start p.end t ≡ p.bytes) (placed at fs)
stand before [] at t l e = tt
stand before (f ∷ []) at t l e = (here f [] before at t l e, tt)
stand before (f ∷ g ∷ fs) at t l e =
    let n : length (before ++ (f ++ (10 ∷ []))) ≡ at + length f + 1 = length-append before (f ++ (10 ∷ [])) ∙ rw (length-append f (10 ∷ [])) (omega arith) in
    let q : t ≡ (before ++ (f ++ (10 ∷ []))) ++ joined (g ∷ fs) = e ∙ simp append_assoc in
    (here f (10 ∷ (g ++ led fs)) before at t l e, stand (before ++ (f ++ (10 ∷ []))) (g ∷ fs) (at + length f + 1) t n q)

pub fields_stand : FieldsStand
fields_stand t = stand [] (cut t) 0 t refl (sym (joined_of_cut t).0)
