-- A whole file: the law over all fragments of one, from the announcement to the last.
use Rattle.std.specs.Prelude.{◌≡◌, ℕ, Bool, true, false, cond, List, [], ◌∷◌, length, is_ok, Ok, Result}
use Rattle.digest.specs.Sha256.{sha256}
use Rattle.fragments.specs.declared.refusal.FragmentRefusal.{FragmentRefusal}
use Rattle.fragments.specs.Cuts.{joined, cut}
use Rattle.fragments.specs.Progresses.{Standing, begun, verdict, after}

-- The fragments d and then ds, the final one as the last: what the first refused one gets, or else the last.
abbrev pub taken : Standing → List ℕ → List (List ℕ) → Result Bool FragmentRefusal
taken g d [] = verdict g d true
taken g d (e ∷ ds) = cond (is_ok (verdict g d false)) (taken (after g d false) e ds) (verdict g d false)

-- Fragments are taken for a whole file exactly where they are the cut of a file of the announced size and digest.
abbrev pub WholeAsAnnounced : Type 0
WholeAsAnnounced =
    (s : ℕ) (a d : List ℕ) (ds : List (List ℕ)) →
    let file = joined (d ∷ ds) in
    (taken (begun s a) d ds ≡ Ok true → (d ∷ ds ≡ cut file) × (length file ≡ s) × (sha256 file ≡ a))
    × ((d ∷ ds ≡ cut file) × (length file ≡ s) × (sha256 file ≡ a) → taken (begun s a) d ds ≡ Ok true)
