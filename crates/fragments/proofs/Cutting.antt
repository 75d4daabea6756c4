-- There is one way to cut a file.
use Rattle.std.proofs.Common.{◌≡◌, ℕ, zero, suc, ◌+◌, ◌-◌, ◌/◌, ◌<◌, ◌≤◌, true, false, eqb, ltb, leb, List, [], ◌∷◌, ◌++◌, length, take, drop, sym, refl, ap, ◌∙◌, append-nil, arith, length-append, length-drop, take-append-drop, length-take, ltb-true, lt-ltb, eq-eqb, eqb-true, le-leb, leb-true}
use Rattle.std.proofs.lemmas.Bool.{and_parts}
use Rattle.std.proofs.lemmas.List.{take_at, drop_at}
use Rattle.fragments.specs.Cuts.{joined, in_turn, cut_after, cut, OneWayToCut}
use Rattle.fragments.specs.Rule.{fits}

-- What a fragment that fits is like, and back.
pub last_fits : (n s k : ℕ) → fits n s k true ≡ true → (k ≤ 1024) × (n + k ≡ s)
last_fits n s k e = let h = and_parts (leb k 1024) (eqb (n + k) s) e in (leb-true k 1024 h.0, eqb-true (n + k) s h.1)

pub full_fits : (n s k : ℕ) → fits n s k false ≡ true → (k ≡ 1024) × (n + 1024 < s)
full_fits n s k e = let h = and_parts (eqb k 1024) (ltb (n + 1024) s) e in (eqb-true k 1024 h.0, ltb-true (n + 1024) s h.1)

pub fits_last : (n s k : ℕ) → k ≤ 1024 → n + k ≡ s → fits n s k true ≡ true
fits_last n s k h e = rw (le-leb k 1024 h, eq-eqb (n + k) s e)

pub fits_full : (n s k : ℕ) → k ≡ 1024 → n + 1024 < s → fits n s k false ≡ true
fits_full n s k e h = rw (eq-eqb k 1024 e, lt-ltb (n + 1024) s h)

-- Fragments that fit in turn are the cut of what they join to.
pub cut_from_turn : (n s : ℕ) (d : List ℕ) (ds : List (List ℕ)) → s ≡ n + length (joined (d ∷ ds)) → in_turn n s d ds ≡ true
    → d ∷ ds ≡ cut (joined (d ∷ ds))
unfolding cut_after
cut_from_turn n s d [] e t =
    let f = last_fits n s (length d) t in
    let q : (length d - 1) / 1024 ≡ 0 = omega arith in
    rw (append-nil d, q)
cut_from_turn n s d (x ∷ ds) e t =
    let r = joined (x ∷ ds) in
    let b = and_parts (fits n s (length d) false) (in_turn (n + length d) s x ds) t in
    let f = full_fits n s (length d) b.0 in
    let l : length (d ++ r) ≡ length d + length r = length-append d r in
    let i : x ∷ ds ≡ cut r = cut_from_turn (n + length d) s x ds (omega arith) b.1 in
    let q : (length (d ++ r) - 1) / 1024 ≡ suc ((length r - 1) / 1024) = omega arith in
    let c : cut (d ++ r) ≡ d ∷ cut r = rw (q, take_at d r 1024 f.0, drop_at d r 1024 f.0) in
    ap {B = List (List ℕ)} (λ z. d ∷ z) i ∙ sym c

-- The cut of a file joins to it and fits in turn.
cut_not_nil : (q : ℕ) (xs : List ℕ) → cut_after q xs ≡ [] → ⊥
unfolding cut_after
cut_not_nil zero xs e = let z : ◌≡◌ {A = ℕ} 0 1 = cc in omega arith
cut_not_nil (suc q) xs e = let z : ◌≡◌ {A = ℕ} 0 1 = cc in omega arith

turn_from_cut : (q n s : ℕ) (xs d : List ℕ) (ds : List (List ℕ)) → q ≡ (length xs - 1) / 1024 → s ≡ n + length xs → d ∷ ds ≡ cut_after q xs
    → (joined (d ∷ ds) ≡ xs) × (in_turn n s d ds ≡ true)
unfolding cut_after
turn_from_cut zero n s xs d [] f e c =
    let p : d ≡ xs = cc in
    (append-nil d ∙ p, fits_last n s (length d) (rw p (omega arith)) (rw p (omega arith)))
turn_from_cut zero n s xs d (x ∷ ds) f e c = let z : ◌≡◌ {A = ℕ} 0 1 = cc in absurd (omega arith)
turn_from_cut (suc q) n s xs d [] f e c =
    let p : ◌≡◌ {A = List (List ℕ)} [] (cut_after q (drop 1024 xs)) = cc in
    absurd (cut_not_nil q (drop 1024 xs) (sym p))
turn_from_cut (suc q) n s xs d (x ∷ ds) f e c =
    let p : d ≡ take 1024 xs = cc in
    let r : x ∷ ds ≡ cut_after q (drop 1024 xs) = cc in
    let k : length d ≡ 1024 = rw (p, length-take) (omega arith) in
    let l : length (drop 1024 xs) ≡ length xs - 1024 = length-drop 1024 xs in
    let i = turn_from_cut q (n + length d) s (drop 1024 xs) x ds (omega arith) (omega arith) r in
    let j : joined (x ∷ ds) ≡ drop 1024 xs = i.0 in
    let t : in_turn (n + length d) s x ds ≡ true = i.1 in (
      rw (p, j) (take-append-drop 1024 xs),
      rw (fits_full n s (length d) k (omega arith)) t,
    )

pub one_way_to_cut : OneWayToCut
one_way_to_cut xs d ds = (
  λ h. let e : joined (d ∷ ds) ≡ xs = h.0 in rw e at (cut_from_turn 0 (length xs) d ds (rw e (omega arith)) h.1),
  λ e. turn_from_cut ((length xs - 1) / 1024) 0 (length xs) xs d ds refl (omega arith) e,
)
