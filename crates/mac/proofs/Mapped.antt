-- An array made of each element of a list, by its place.
use Rattle.std.proofs.Common.{◌≡◌, ℕ, zero, suc, ◌<◌, List, [], ◌∷◌, length, get_or, map, refl, sym, ◌∙◌, arith}
use denote.Param.Members.{Mut, Called}
use Rattle.std.specs.Array.{IsFromFnResult}
use Rattle.std.proofs.lemmas.List.{length-map}
use Rattle.std.proofs.lemmas.List.FromFn.{fill_by_all}
use Rattle.digest.proofs.Made.{made}

get_or-map : {A B : Type 0} (h : A → B) (xs : List A) (k : ℕ) (d : A) (e : B) → k < length xs → get_or (map h xs) k e ≡ h (get_or xs k d)
get_or-map h [] k d e l = absurd (omega arith)
get_or-map h (x ∷ xs) zero d e l = refl
get_or-map h (x ∷ xs) (suc k) d e l = get_or-map h xs k d e (omega arith)

module _ {F A B : Type 0} (g : Mut F (ℕ × Unit {0}) B) (h : A → B) (xs : List A) (d : A) (f : F)
    (step : (i : ℕ) (y : B) (q : F) → Called g f (i, tt) y q → (q ≡ f) × (y ≡ h (get_or xs i d))) (ys : List B) where
  pub mapped : (n : ℕ) (e : B) → length xs ≡ n → IsFromFnResult g f ys n → ys ≡ map h xs
  mapped n e l r =
      let at : ℕ → B = λ k. h (get_or xs k d) in
      made g at f step ys n e r
      ∙ sym (fill_by_all at (map h xs) n e (length-map xs h ∙ l) (λ k m. get_or-map h xs k d e (omega arith)))
