-- What is known of each step of a reading that succeeded.
use Rattle.std.proofs.Common.{◌≡◌, ℕ, ◌+◌, ◌<◌, ◌≤◌, Bool, true, false, ◌&&◌, eqb, List, [], ◌∷◌, length, Some, Ok, Option, Result, refl, ap, arith}
use Rattle.std.specs.List.{AllByRecursion}
use Rattle.std.proofs.lemmas.Bool.{ne_eqb, eqb-true, le-leb}
use Rattle.fields.specs.Cuts.{Piece, placed, joined, unbroken, all_unbroken}
use Rattle.fields.specs.Takes.{and_then, taken, taken_closed, ended, ended_closed, writing, must, pass}
use Rattle.fields.proofs.Ends.{err_not_ok, and_then_ok, ok_or_ok}
use Rattle.payloads.specs.Laws.{where_room}

-- The bytes of some fields, without their places.
abbrev pub texts : List Piece → List (List ℕ)
texts [] = []
texts (p ∷ ps) = p.bytes ∷ texts ps

pub texts-placed : (at : ℕ) (fs : List (List ℕ)) → texts (placed at fs) ≡ fs
texts-placed at [] = refl
texts-placed at (f ∷ fs) = ap (λ gs. f ∷ gs) (texts-placed (at + length f + 1) fs)

-- What follows from what a step gave and from what came after it follows from the whole.
pub step : {X Y E P : Type 0} (r : Result X E) (f : X → Result Y E) (y : Y) → and_then r f ≡ Ok y → ((x : X) → r ≡ Ok x → f x ≡ Ok y → P) → P
step r f y h k = let (x, (e, g)) = and_then_ok r f y h in k x e g

pub was_taken : (end n : ℕ) (ps : List Piece) (x : Piece × List Piece) → taken end n ps ≡ Ok x → ps ≡ x.0 ∷ x.1
was_taken end n [] x h = absurd (err_not_ok _ _ h)
was_taken end n (p ∷ ps) x h = let q : (p, ps) ≡ x = cc in ap (λ (y : Piece × List Piece). y.0 ∷ y.1) q

pub was_closed : (end n : ℕ) (ps : List Piece) (x : Piece × List Piece) → taken_closed end n ps ≡ Ok x → ps ≡ x.0 ∷ x.1
was_closed end n [] x h = absurd (err_not_ok _ _ h)
was_closed end n (p ∷ []) x h = absurd (err_not_ok _ _ h)
was_closed end n (p ∷ q ∷ ps) x h = let e : (p, q ∷ ps) ≡ x = cc in ap (λ (y : Piece × List Piece). y.0 ∷ y.1) e

pub was_end : (n : ℕ) (ps : List Piece) (x : Unit {0}) → ended n ps ≡ Ok x → ps ≡ []
was_end n [] x h = refl
was_end n (p ∷ ps) x h = absurd (err_not_ok _ _ h)

length_none : (t : List ℕ) → length t ≡ 0 → t ≡ []
length_none [] h = refl
length_none (b ∷ t) h = absurd (omega arith)

pub was_last : (end n : ℕ) (ps : List Piece) (x : Unit {0}) → ended_closed end n ps ≡ Ok x → texts ps ≡ [] ∷ []
was_last end n [] x h = absurd (err_not_ok _ _ h)
was_last end n (p ∷ []) x h = ap (λ t. t ∷ []) (by-test (eqb (length p.bytes) 0) refl h)
  where
    by-test : (b : Bool) → eqb (length p.bytes) 0 ≡ b → pass n p (b && true) ≡ Ok x → p.bytes ≡ []
    by-test true e h = length_none p.bytes (eqb-true (length p.bytes) 0 e)
    by-test false e h = absurd (err_not_ok _ _ h)
was_last end n (p ∷ q ∷ ps) x h = by-test (eqb (length p.bytes) 0) h
  where
    by-test : (b : Bool) → pass n p (b && false) ≡ Ok x → p.bytes ∷ q.bytes ∷ texts ps ≡ [] ∷ []
    by-test true h = absurd (err_not_ok _ _ h)
    by-test false h = absurd (err_not_ok _ _ h)

pub was_some : {X : Type 0} (n : ℕ) (p : Piece) (o : Option X) (x : X) → must n p o ≡ Ok x → o ≡ Some x
was_some n p o x h = ok_or_ok o _ x h

pub was_true : (n : ℕ) (p : Piece) (b : Bool) (x : Unit {0}) → pass n p b ≡ Ok x → b ≡ true
was_true n p true x h = refl
was_true n p false x h = absurd (err_not_ok _ _ h)

-- Bytes that are all over 10 are not 10.
pub high-unbroken : (k : ℕ) (t : List ℕ) → 10 < k → AllByRecursion (λ b. k ≤ b) t → unbroken t ≡ true
high-unbroken k [] h a = refl
high-unbroken k (b ∷ t) h a = rw (ne_eqb b 10 (λ z. omega (arith, a.0)), high-unbroken k t h a.1)

-- Fields that make a text are written where there is room.
pub written_so : (fs : List (List ℕ)) (formed : Bool) (room : ℕ) → formed ≡ true → all_unbroken fs ≡ true → length (joined fs) ≤ 4096
    → writing fs formed room ≡ where_room fs room
written_so fs formed room f u l = rw (f, u, le-leb (length (joined fs)) 4096 l)
