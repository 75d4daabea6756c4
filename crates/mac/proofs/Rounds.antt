-- The iterations of PBKDF2, counted from 1.
use Rattle.std.proofs.Common.{◌≡◌, ℕ, suc, ◌+◌, ◌-◌, ◌≤◌, List, ◌∙◌, arith}
use Rattle.mac.specs.Hmac.{hmac}
use Rattle.mac.specs.Pbkdf2.{xors, iterated, folded}

module _ (p s : List ℕ) (j : ℕ) (h : 1 ≤ j) where
  pub iterated_more : (was now : List ℕ) → was ≡ iterated p s (j - 1) → now ≡ hmac p was → now ≡ iterated p s (j + 1 - 1)
  unfolding iterated
  iterated_more was now e f = let n : j + 1 - 1 ≡ suc (j - 1) = omega arith in f ∙ rw (n, e)

  pub folded_more : (was now u : List ℕ) → was ≡ folded p s (j - 1) → u ≡ iterated p s (j + 1 - 1) → now ≡ xors was u → now ≡ folded p s (j + 1 - 1)
  unfolding folded
  folded_more was now u e g f = let n : j + 1 - 1 ≡ suc (j - 1) = omega arith in f ∙ rw (e, g, n)
