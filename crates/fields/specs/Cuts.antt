-- The fields of a text: byte 10 separates them.
use Rattle.std.specs.Prelude.{◌≡◌, ℕ, ◌+◌, Bool, true, cond, not, ◌&&◌, List, [], ◌∷◌, ◌++◌, length, ◌==◌}
use Rattle.std.specs.List.{between, AllByRecursion}

-- A byte before the first of some fields.
abbrev pub onto : ℕ → List (List ℕ) → List (List ℕ)
onto b [] = (b ∷ []) ∷ []
onto b (f ∷ fs) = (b ∷ f) ∷ fs

-- A text cut at each byte 10.
abbrev pub cut : List ℕ → List (List ℕ)
cut [] = [] ∷ []
cut (b ∷ bs) = cond (b == 10) ([] ∷ cut bs) (onto b (cut bs))

-- A field in its text: where it starts, where it ends, and its bytes.
pub record Piece : Type 0 where
  pub start : ℕ
  pub end : ℕ
  pub bytes : List ℕ

-- Fields in turn, the first at a given place; one byte 10 stands between two.
abbrev pub placed : ℕ → List (List ℕ) → List Piece
placed at [] = []
placed at (f ∷ fs) = record { start = at; end = at + length f; bytes = f } ∷ placed (at + length f + 1) fs

-- The fields of a text with their places.
abbrev pub fields : List ℕ → List Piece
fields t = placed 0 (cut t)

-- Fields joined into a text, byte 10 between two.
abbrev pub led : List (List ℕ) → List ℕ
led [] = []
led (f ∷ fs) = 10 ∷ (f ++ led fs)

abbrev pub joined : List (List ℕ) → List ℕ
joined [] = []
joined (f ∷ fs) = f ++ led fs

-- No byte 10 in a field, nor in any of some fields.
abbrev pub unbroken : List ℕ → Bool
unbroken [] = true
unbroken (b ∷ bs) = not (b == 10) && unbroken bs

abbrev pub all_unbroken : List (List ℕ) → Bool
all_unbroken [] = true
all_unbroken (f ∷ fs) = unbroken f && all_unbroken fs

-- What is joined is cut again into the same fields, and what is cut is joined again to the same text.
abbrev pub CutOfJoined : Type 0
CutOfJoined = (f : List ℕ) (fs : List (List ℕ)) → all_unbroken (f ∷ fs) ≡ true → cut (joined (f ∷ fs)) ≡ f ∷ fs

abbrev pub JoinedOfCut : Type 0
JoinedOfCut = (t : List ℕ) → (joined (cut t) ≡ t) × (all_unbroken (cut t) ≡ true)

-- Each field's bytes stand in the text from its start to its end.
abbrev pub FieldsStand : Type 0
FieldsStand = (t : List ℕ) → AllByRecursion (λ p. between p.start p.end t ≡ p.bytes) (fields t)
