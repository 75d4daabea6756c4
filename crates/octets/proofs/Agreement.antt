-- Two lists of bytes are equal exactly where the differences of their bytes, gathered in one, come to 0.
use Rattle.std.proofs.Common.{◌≡◌, ℕ, ◌+◌, ◌*◌, ◌≤◌, Bool, true, false, cond, eqb, List, [], ◌∷◌, length, Decides, refl, ap, arith, eq-eqb, eqb-true}
use borrow.Author.Tests.{clash}
use lib.Bits.{bit_and, bit_or, bit_xor, or_add_and, xor_add_and, xor_self}
use Rattle.std.proofs.lemmas.Nat.{and_le_l, and_le_r}
use Rattle.std.specs.Bool.{one_answer}
use Rattle.std.specs.List.{fold, zip}
use Rattle.octets.specs.Equality.{same}

-- A difference more: none is there exactly where none was before and the bytes are equal.
or_none : (d x y : ℕ) → (bit_or d (bit_xor x y) ≡ 0 → (d ≡ 0) × (x ≡ y)) × (d ≡ 0 → x ≡ y → bit_or d (bit_xor x y) ≡ 0)
or_none d x y =
    let o : bit_or d (bit_xor x y) + bit_and d (bit_xor x y) ≡ d + bit_xor x y = or_add_and d (bit_xor x y) in
    let ol : bit_and d (bit_xor x y) ≤ d = and_le_l d (bit_xor x y) in
    let or : bit_and d (bit_xor x y) ≤ bit_xor x y = and_le_r d (bit_xor x y) in
    let e : bit_xor x y + bit_and x y * 2 ≡ x + y = xor_add_and x y in
    let el : bit_and x y ≤ x = and_le_l x y in
    let er : bit_and x y ≤ y = and_le_r x y in
    (λ z. (omega arith, omega arith), λ z u. let w : bit_xor x y ≡ 0 = rw u (xor_self y) in omega arith)

-- The differences of two lists, gathered after d, in one byte.
abbrev pub gathered : ℕ → List ℕ → List ℕ → ℕ
gathered d a b = fold (λ g p. bit_or g (bit_xor p.0 p.1)) d (zip a b)

none_gathered : (a b : List ℕ) (d : ℕ) → length a ≡ length b → (gathered d a b ≡ 0 → (d ≡ 0) × (a ≡ b)) × (d ≡ 0 → a ≡ b → gathered d a b ≡ 0)
none_gathered [] [] d l = (λ z. (z, refl), λ z e. z)
none_gathered [] (y ∷ b) d l = absurd (omega arith)
none_gathered (x ∷ a) [] d l = absurd (omega arith)
none_gathered (x ∷ a) (y ∷ b) d l =
    let n = or_none d x y in
    let i = none_gathered a b (bit_or d (bit_xor x y)) (omega arith) in (
      λ z.
          let p = i.0 z in
          let q = n.0 p.0 in
          let u : x ≡ y = q.1 in
          let w : a ≡ b = p.1 in
          (q.0, cc),
      λ z e.
          let u : x ≡ y = cc in
          let w : a ≡ b = cc in
          i.1 (n.1 z u) w,
    )

pub alike : (a b : List ℕ) → length a ≡ length b → Decides (eqb (gathered 0 a b) 0) (a ≡ b)
alike a b l =
    let n = none_gathered a b 0 l in
    (λ z. (n.0 (eqb-true (gathered 0 a b) 0 z)).1, λ e. eq-eqb (gathered 0 a b) 0 (n.1 refl e))

both : (p q : Bool) → cond p q false ≡ true → (p ≡ true) × (q ≡ true)
both true q e = (refl, e)
both false q e = absurd (clash e)

-- The test of the definition decides equality, and so does the gathered difference: they agree.
pub same_decides : (a b : List ℕ) → Decides (same a b) (a ≡ b)
unfolding same
same_decides [] [] = (λ _. refl, λ _. refl)
same_decides [] (y ∷ b) = (λ z. absurd (clash z), λ z. let e : ◌≡◌ {A = ℕ} 0 1 = cc in absurd (omega arith))
same_decides (x ∷ a) [] = (λ z. absurd (clash z), λ z. let e : ◌≡◌ {A = ℕ} 0 1 = cc in absurd (omega arith))
same_decides (x ∷ a) (y ∷ b) =
    let r = same_decides a b in (
      λ z.
          let e = both (eqb x y) (same a b) z in
          let p : x ≡ y = eqb-true x y e.0 in
          let q : a ≡ b = r.0 e.1 in
          cc,
      λ z.
          let p : x ≡ y = cc in
          let q : a ≡ b = cc in
          rw (eq-eqb x y p) (r.1 q),
    )

-- Lists of different lengths differ.
pub unlike : (a b : List ℕ) → (length a ≡ length b → ⊥) → Decides false (a ≡ b)
unlike a b n = (λ z. absurd (clash z), λ z. absurd (n (ap length z)))

pub agree_same : (a b : List ℕ) (r : Bool) → Decides r (a ≡ b) → r ≡ same a b
agree_same a b r d = one_answer r (same a b) d (same_decides a b)
