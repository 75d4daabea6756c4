-- A text cut byte by byte.
use Rattle.std.proofs.Common.{suc, ◌≡◌, ℕ, ◌+◌, ◌<◌, ◌≤◌, Bool, true, false, cond, not, eqb, ltb, List, [], ◌∷◌, ◌++◌, length, take, drop, Some, None, Option, sym, refl, ap, ◌∙◌, arith}
use Rattle.std.proofs.lemmas.List.{drop_more, drop_all, drop-drop, length-take, take_all}
use Rattle.std.proofs.lemmas.Bool.{ltb-true, ltb-false}
use Rattle.std.specs.List.{position, position_or_len}
use Rattle.fields.specs.Cuts.{cut, onto, placed}
use Rattle.fields.specs.Takes.{from, starts}
use Rattle.fields.proofs.Ends.{none_not_some}

-- Bytes before the first of some fields.
abbrev pub glue : List ℕ → List (List ℕ) → List (List ℕ)
glue p [] = p ∷ []
glue p (f ∷ fs) = (p ++ f) ∷ fs

pub glue-none : (t : List ℕ) → glue [] (cut t) ≡ cut t
glue-none [] = refl
glue-none (b ∷ bs) = by (eqb b 10)
  where
    by : (q : Bool) → glue [] (cond q ([] ∷ cut bs) (onto b (cut bs))) ≡ cond q ([] ∷ cut bs) (onto b (cut bs))
    by true = refl
    by false = on (cut bs)
      where
        on : (fs : List (List ℕ)) → glue [] (onto b fs) ≡ onto b fs
        on [] = refl
        on (f ∷ fs) = refl

-- The fields behind the first one, where its end is.
abbrev others : List ℕ → List (List ℕ)
others [] = []
others (b ∷ bs) = cut bs

-- How long a text's first field is, and what it is.
abbrev size : List ℕ → ℕ
size t = position_or_len (λ b. eqb b 10) t

first-cut : (t : List ℕ) → cut t ≡ take (size t) t ∷ others (drop (size t) t)
first-cut [] = refl
first-cut (b ∷ bs) = by (eqb b 10) (first-cut bs)
  where
    by : (q : Bool) → cut bs ≡ take (size bs) bs ∷ others (drop (size bs) bs)
        → cond q ([] ∷ cut bs) (onto b (cut bs)) ≡ take (cond (not q) (1 + size bs) 0) (b ∷ bs) ∷ others (drop (cond (not q) (1 + size bs) 0) (b ∷ bs))
    by true e = refl
    by false e =
        let n : suc (size bs) ≡ 1 + size bs = omega arith in
        rw e (ap (λ m. take m (b ∷ bs) ∷ others (drop m (b ∷ bs))) n)

some_if : (q : Bool) (m n : ℕ) → Some n ≡ cond q (Some m) None → (q ≡ true) × (n ≡ m)
some_if true m n e = (refl, cc)
some_if false m n e = absurd (none_not_some n (sym e))

none_if : (q : Bool) (m : ℕ) → None ≡ cond q (Some m) None → q ≡ false
none_if true m e = absurd (none_not_some m e)
none_if false m e = refl

-- The field at a place and those behind it: where a byte 10 ends it, and where none is left.
module _ (text rest : List ℕ) (at : ℕ) where
  pub cut_some : (n : ℕ) → rest ≡ drop at text → Some n ≡ position (λ b. eqb b 10) rest
      → placed at (cut (drop at text)) ≡ record { start = at; end = at + length (take n rest); bytes = take n rest } ∷ from text (Some (at + n + 1))
  cut_some n r p =
      let s = some_if (ltb (size rest) (length rest)) (size rest) n p in
      let h : n < length rest = omega (arith, ltb-true (size rest) (length rest) s.0, s.1) in
      let c : cut rest ≡ take n rest ∷ cut (drop (n + 1) rest) =
      first-cut rest ∙ ap (λ m. take m rest ∷ others (drop m rest)) (sym s.1) ∙ ap (λ u. take n rest ∷ others u) (drop_more rest n 0 h) in
      let d : drop (n + 1) rest ≡ drop (at + (n + 1)) text = ap (drop (n + 1)) r ∙ drop-drop (n + 1) at text in
      let l : length (take n rest) ≡ n = simp length-take (omega arith) in
      let i : at + (n + 1) ≡ at + n + 1 = omega arith in
      ap (λ u. placed at (cut u)) (sym r) ∙ ap (placed at) c ∙ rw (l, d, i)

  pub cut_none : rest ≡ drop at text → None ≡ position (λ b. eqb b 10) rest
      → placed at (cut (drop at text)) ≡ record { start = at; end = at + length rest; bytes = rest } ∷ []
  cut_none r p =
      let h : length rest ≤ size rest = ltb-false (size rest) (length rest) (none_if (ltb (size rest) (length rest)) (size rest) p) in
      let c : cut rest ≡ rest ∷ [] = first-cut rest ∙ rw (take_all (size rest) rest h, drop_all (size rest) rest h) in
      ap (λ u. placed at (cut u)) (sym r) ∙ ap (placed at) c

-- From any place on, a text has a field that starts there.
pub starts_there : (t : List ℕ) (o : Option ℕ) → o ≡ starts (from t o)
starts_there t None = refl
starts_there t (Some at) = there (drop at t)
  where
    there : (u : List ℕ) → Some at ≡ starts (placed at (cut u))
    there [] = refl
    there (b ∷ bs) = by (eqb b 10)
      where
        by : (q : Bool) → Some at ≡ starts (placed at (cond q ([] ∷ cut bs) (onto b (cut bs))))
        by true = refl
        by false = on (cut bs)
          where
            on : (fs : List (List ℕ)) → Some at ≡ starts (placed at (onto b fs))
            on [] = refl
            on (f ∷ fs) = refl
