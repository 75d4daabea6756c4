-- A header read and written.
use Rattle.std.proofs.Common.{◌≡◌, ℕ, zero, suc, ◌+◌, ◌*◌, ◌≤◌, Bool, true, false, cond, ◌&&◌, eqb, List, [], ◌∷◌, ◌++◌, length, get_or, take, drop, Ok, Err, Result, sym, refl, ap, ◌∙◌, arith, take_all, drop-cons, eqb-true}
use Rattle.std.proofs.lemmas.Bool.{and_parts}
use Rattle.std.proofs.lemmas.Bool.Decides.{nat_tests}
use Rattle.kinds.specs.declared.refusal.MessageRefusal.{MessageRefusal}
use Rattle.kinds.specs.declared.refusal.MessageRefusal.TheVariants.{Length, Version, Reserved}
use Rattle.headers.specs.declared.header.Header.{Header}
use Rattle.headers.specs.Headers.{field, high, low, header_bytes, header_of, length_fits, right_length, right_version, reserved_zero, ReadsWhatWasWritten, WritesWhatWasRead}

-- The first n elements from place i on, one by one.
abbrev elements : ℕ → ℕ → List ℕ → List ℕ
elements zero i m = []
elements (suc n) i m = get_or m i 0 ∷ elements n (suc i) m

front : (n i : ℕ) (m : List ℕ) → i + n ≤ length m → take n (drop i m) ≡ elements n i m
front zero i m h = refl
front (suc n) i m h =
    ap (λ x. take (suc n) x) (drop-cons m i 0 (omega arith)) ∙ ap {B = List ℕ} (λ x. get_or m i 0 ∷ x) (front n (suc i) m (omega arith))

six : (xs : List ℕ) → length xs ≡ 6
    → get_or xs 0 0 ∷ get_or xs 1 0 ∷ get_or xs 2 0 ∷ get_or xs 3 0 ∷ get_or xs 4 0 ∷ get_or xs 5 0 ∷ [] ≡ xs
six xs h = sym (front 6 0 xs (omega arith)) ∙ take_all 6 xs (omega arith)

pub reads : ReadsWhatWasWritten
reads h rest s f =
    let c : high h.code * 256 + low h.code ≡ h.code = omega (arith, s.code) in
    let t : high h.length * 256 + low h.length ≡ h.length = omega (arith, s.told) in
    let n : high h.number * 256 + low h.number ≡ h.number = omega (arith, s.number) in
    let l : length (header_bytes h ++ rest) ≡ 16 + length rest = omega arith in
    rw (l, c, t, n, six h.random s.random, f)

-- What a header that was read went through.
passed : (a b c : Bool) (x h : Header)
    → ◌≡◌ {A = Result Header MessageRefusal} (cond a (cond b (cond c (Ok x) (Err Reserved)) (Err Version)) (Err Length)) (Ok h)
    → (a ≡ true) × (b ≡ true) × (c ≡ true) × (h ≡ x)
passed true true true x h e = (refl, refl, refl, cc)
passed true true false x h e = absurd cc
passed true false c x h e = absurd cc
passed false b c x h e = absurd cc

long : (n k t : ℕ) → length_fits n k t ≡ true → 28 ≤ n
long n k t e = grind (arith, nat_tests)

ones : (x y v : ℕ) → (eqb x v && eqb y v) ≡ true → (x ≡ v) × (y ≡ v)
ones x y v e = let b = and_parts (eqb x v) (eqb y v) e in (eqb-true x v b.0, eqb-true y v b.1)

pub writes : WritesWhatWasRead
writes h m b e =
    let p = passed (right_length m) (right_version m) (reserved_zero m) (header_of m) h e in
    let l = long (length m) (field m 2) (field m 4) p.0 in
    let v = ones (get_or m 0 0) (get_or m 1 0) 1 p.1 in
    let z = ones (get_or m 14 0) (get_or m 15 0) 0 p.2 in
    let f : take 16 m ≡ elements 16 0 m = front 16 0 m (omega arith) in
    let h2 : high (field m 2) ≡ get_or m 2 0 = omega (arith, b 2, b 3) in
    let l2 : low (field m 2) ≡ get_or m 3 0 = omega (arith, b 2, b 3) in
    let h4 : high (field m 4) ≡ get_or m 4 0 = omega (arith, b 4, b 5) in
    let l4 : low (field m 4) ≡ get_or m 5 0 = omega (arith, b 4, b 5) in
    let h6 : high (field m 6) ≡ get_or m 6 0 = omega (arith, b 6, b 7) in
    let l6 : low (field m 6) ≡ get_or m 7 0 = omega (arith, b 6, b 7) in
    let v0 : get_or m 0 0 ≡ 1 = v.0 in
    let v1 : get_or m 1 0 ≡ 1 = v.1 in
    let z0 : get_or m 14 0 ≡ 0 = z.0 in
    let z1 : get_or m 15 0 ≡ 0 = z.1 in
    let g : header_bytes (header_of m) ≡ elements 16 0 m = rw (h2, l2, h4, l4, h6, l6, v0, v1, z0, z1) in
    ap header_bytes p.3 ∙ g ∙ sym f
