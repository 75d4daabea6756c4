-- Two characters more of a digest's text.
use Rattle.std.proofs.Common.{◌≡◌, ℕ, zero, suc, ◌+◌, ◌*◌, ◌/◌, ◌%◌, ◌<◌, List, [], ◌∷◌, ◌++◌, length, get_or, take, set, sym, refl, ap, ◌∙◌, append_assoc, add-one, arith, length-set}
use Rattle.std.proofs.lemmas.List.{take_more_set}
use Rattle.octets.specs.Hexadecimal.{digit, hexadecimal}

hexadecimal-more : (bs : List ℕ) (i : ℕ) → i < length bs
    → hexadecimal (take (suc i) bs) ≡ hexadecimal (take i bs) ++ digit (get_or bs i 0 / 16) ∷ digit (get_or bs i 0 % 16) ∷ []
unfolding hexadecimal
hexadecimal-more [] i h = absurd (omega arith)
hexadecimal-more (b ∷ bs) zero h = refl
hexadecimal-more (b ∷ bs) (suc i) h = ap {B = List ℕ} (λ r. digit (b / 16) ∷ digit (b % 16) ∷ r) (hexadecimal-more bs i (omega arith))

pub text-more : (bs ts : List ℕ) (i x y : ℕ) → i < length bs → length bs ≡ 32 → length ts ≡ 64
    → x ≡ digit (get_or bs i 0 / 16) → y ≡ digit (get_or bs i 0 % 16) → take (2 * i) ts ≡ hexadecimal (take i bs)
    → (take (2 * (i + 1)) (set (set ts (2 * i) x) (2 * i + 1) y) ≡ hexadecimal (take (i + 1) bs)) × (length (set (set ts (2 * i) x) (2 * i + 1) y) ≡ 64)
text-more bs ts i x y h k l e f g =
    let s = set ts (2 * i) x in
    let m : length s ≡ 64 = length-set ts (2 * i) x ∙ l in
    let n : 2 * (i + 1) ≡ (2 * i + 1) + 1 = omega arith in
    let p : take (2 * i + 1 + 1) (set s (2 * i + 1) y) ≡ take (2 * i + 1) s ++ y ∷ [] = take_more_set s (2 * i + 1) y (omega arith) in
    let q : take (2 * i + 1) s ≡ take (2 * i) ts ++ x ∷ [] = take_more_set ts (2 * i) x (omega arith) in (
      ap (λ z. take z (set s (2 * i + 1) y)) n ∙ p ∙ ap (λ z. z ++ y ∷ []) q ∙ append_assoc (take (2 * i) ts) (x ∷ []) (y ∷ [])
          ∙ rw (g, e, f, add-one) (sym (hexadecimal-more bs i h)),
      length-set s (2 * i + 1) y ∙ m,
    )
