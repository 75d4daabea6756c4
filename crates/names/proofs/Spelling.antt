-- One dot and two dots, as tests of the bytes.
use Rattle.std.proofs.Common.{◌≡◌, ℕ, ◌&&◌, List, [], ◌∷◌, length, get_or, eqb, refl, arith}
use Rattle.std.proofs.lemmas.Bool.Decides.{nat_tests}
use Rattle.octets.specs.Equality.{same}

pub same_dot : (t : List ℕ) → same t (46 ∷ []) ≡ (eqb (length t) 1 && eqb (get_or t 0 0) 46)
unfolding same
same_dot [] = refl
same_dot (a ∷ []) = grind (arith, nat_tests)
same_dot (a ∷ b ∷ t) = grind (arith, nat_tests)

pub same_dots : (t : List ℕ) → same t (46 ∷ 46 ∷ []) ≡ (eqb (length t) 2 && (eqb (get_or t 0 0) 46 && eqb (get_or t 1 0) 46))
unfolding same
same_dots [] = refl
same_dots (a ∷ []) = grind (arith, nat_tests)
same_dots (a ∷ b ∷ []) = grind (arith, nat_tests)
same_dots (a ∷ b ∷ c ∷ t) = grind (arith, nat_tests)
