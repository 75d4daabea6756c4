-- Fragments are taken for a whole file exactly where they are the cut of one that is as announced.
use Rattle.std.proofs.Common.{◌≡◌, ℕ, ◌+◌, Bool, true, false, cond, not, ◌&&◌, List, [], ◌∷◌, ◌++◌, length, is_ok, Ok, Err, Result, sym, refl, ◌∙◌, append-nil, arith, length-append}
use Rattle.digest.specs.Running.{absorb, finished}
use Rattle.digest.specs.Sha256.{sha256}
use Rattle.digest.proofs.Pieces.{joins, comes_to_digest}
use Rattle.octets.specs.Equality.{same}
use Rattle.std.proofs.lemmas.Bool.{and_parts}
use Rattle.octets.proofs.Agreement.{same_decides}
use Rattle.fragments.specs.declared.refusal.FragmentRefusal.{FragmentRefusal}
use Rattle.fragments.specs.declared.refusal.FragmentRefusal.TheVariants.{SizeRule, Digest}
use Rattle.fragments.specs.Cuts.{joined, in_turn}
use Rattle.fragments.specs.Progresses.{Standing, begun, advanced}
use Rattle.fragments.specs.Rule.{fits}
use Rattle.fragments.specs.Wholes.{taken, WholeAsAnnounced}
use Rattle.fragments.proofs.Cutting.{last_fits, cut_from_turn, one_way_to_cut}

-- The verdict on the last fragment, by its two tests.
abbrev ending : Bool → Result Bool FragmentRefusal
ending agrees = cond (not agrees) (Err Digest) (Ok true)

-- A fragment that is not the last is judged by its size alone.
step : (p : Bool) (f : Standing → Result Bool FragmentRefusal) (g h : Standing) →
    let v : Result Bool FragmentRefusal = cond p (Ok false) (Err SizeRule) in
    cond (is_ok v) (f (cond (is_ok v) h g)) v ≡ cond p (f h) (Err SizeRule)
step true f g h = refl
step false f g h = refl

nested : (p q : Bool) (x : Result Bool FragmentRefusal) → cond p (cond q x (Err SizeRule)) (Err SizeRule) ≡ cond (p && q) x (Err SizeRule)
nested true q x = refl
nested false q x = refl

taken_is : (g : Standing) (d : List ℕ) (ds : List (List ℕ))
    → taken g d ds
    ≡ cond (in_turn g.so_far g.size d ds) (ending (same (finished (absorb g.digest (joined (d ∷ ds)))) g.announced)) (Err SizeRule)
taken_is g d [] = rw (append-nil d)
taken_is g d (e ∷ ds) =
    step (fits g.so_far g.size (length d) false) (λ h. taken h e ds) g (advanced g d)
    ∙ rw (taken_is (advanced g d) e ds, joins g.digest d (joined (e ∷ ds)))
    (nested (fits g.so_far g.size (length d) false) (in_turn (g.so_far + length d) g.size e ds)
    (ending (same (finished (absorb g.digest (d ++ joined (e ∷ ds)))) g.announced)))

both-pass : (p q : Bool) → cond p (ending q) (Err SizeRule) ≡ Ok true → (p ≡ true) × (q ≡ true)
both-pass true true e = (refl, refl)
both-pass true false e = let z : ◌≡◌ {A = ℕ} 0 1 = cc in absurd (omega arith)
both-pass false q e = let z : ◌≡◌ {A = ℕ} 0 1 = cc in absurd (omega arith)

-- Fragments that fit in turn end at the size.
turn_ends : (n s : ℕ) (d : List ℕ) (ds : List (List ℕ)) → in_turn n s d ds ≡ true → n + length (joined (d ∷ ds)) ≡ s
turn_ends n s d [] t = rw (append-nil d) (last_fits n s (length d) t).1
turn_ends n s d (e ∷ ds) t =
    let b = and_parts (fits n s (length d) false) (in_turn (n + length d) s e ds) t in
    let i = turn_ends (n + length d) s e ds b.1 in
    let l : length (d ++ joined (e ∷ ds)) ≡ length d + length (joined (e ∷ ds)) = length-append d (joined (e ∷ ds)) in
    omega arith

pub whole_as_announced : WholeAsAnnounced
whole_as_announced s a d ds =
    let file = joined (d ∷ ds) in
    let t : taken (begun s a) d ds ≡ cond (in_turn 0 s d ds) (ending (same (sha256 file) a)) (Err SizeRule) =
    taken_is (begun s a) d ds ∙ rw (comes_to_digest file) in (
      λ e.
          let b = both-pass (in_turn 0 s d ds) (same (sha256 file) a) (sym t ∙ e) in
          let l : 0 + length file ≡ s = turn_ends 0 s d ds b.0 in
          (cut_from_turn 0 s d ds (omega arith) b.0, omega arith, (same_decides (sha256 file) a).0 b.1),
      λ h.
          let i : in_turn 0 (length file) d ds ≡ true = ((one_way_to_cut file d ds).1 h.0).1 in
          let j : in_turn 0 s d ds ≡ true = rw h.1 at i in
          let k : same (sha256 file) a ≡ true = (same_decides (sha256 file) a).1 h.2 in
          t ∙ rw (j, k),
    )
