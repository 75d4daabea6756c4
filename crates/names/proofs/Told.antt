-- The tests of names and users decide what is said in plain words.
use Rattle.std.proofs.Common.{◌≡◌, ℕ, ◌≤◌, Bool, true, not, ◌&&◌, ◌||◌, eqb, leb, ◌⊎◌, List, [], ◌∷◌, length, Decides, refl, inl, inr, arith}
use Rattle.octets.proofs.Agreement.{same_decides}
use Rattle.std.proofs.lemmas.Bool.{eq-eqb, eqb-true, le-leb, leb-true, and_parts, and_from, or_cases, or_left, or_right, not-true, not_from_false, both_ways, cases_Bool}
use Rattle.std.specs.List.{AllByRecursion}
use Rattle.names.specs.Names.{letter, letters, plain, name, user}
use Rattle.names.specs.Laws.{Letter, Told, NamesTold, UsersTold}

-- How tests that decide facts are joined.
both : (p q : Bool) {P Q : Type 0} → Decides p P → Decides q Q → Decides (p && q) (P × Q)
both p q d e = (
  λ h. let k = and_parts p q h in (d.0 k.0, e.0 k.1),
  λ h. and_from p q (d.1 h.0) (e.1 h.1),
)

either : (p q : Bool) {P Q : Type 0} → Decides p P → Decides q Q → Decides (p || q) (P ⊎ Q)
either p q d e = (
  λ h. elim (or_cases p q h) [ inl k ↦ inl (d.0 k) | inr k ↦ inr (e.0 k) ],
  λ h. elim h [ inl k ↦ or_left p q (d.1 k) | inr k ↦ or_right p q (e.1 k) ],
)

never : (p : Bool) {P : Type 0} → Decides p P → Decides (not p) (P → ⊥)
never p d = (
  λ h k. both_ways p (not-true p h) (d.1 k),
  λ h. elim (cases_Bool p) [ inl k ↦ absurd (h (d.0 k)) | inr k ↦ not_from_false p k ],
)

at_most : (a b : ℕ) → Decides (leb a b) (a ≤ b)
at_most a b = (leb-true a b, le-leb a b)

equals : (a b : ℕ) → Decides (eqb a b) (a ≡ b)
equals a b = (eqb-true a b, eq-eqb a b)

from_to : (a z b : ℕ) → Decides (leb a b && leb b z) ((a ≤ b) × (b ≤ z))
from_to a z b = both (leb a b) (leb b z) (at_most a b) (at_most b z)

pub letter-told : (b : ℕ) → Decides (letter b) (Letter b)
letter-told b =
    either _ _ (from_to 65 90 b) (either _ _ (from_to 97 122 b)
    (either _ _ (from_to 48 57 b) (either _ _ (equals b 45) (either _ _ (equals b 46) (equals b 95)))))

pub letters-told : (t : List ℕ) → Decides (letters t) (AllByRecursion Letter t)
unfolding letters
letters-told [] = (λ _. tt, λ _. refl)
letters-told (b ∷ bs) = both (letter b) (letters bs) (letter-told b) (letters-told bs)

pub told : (most : ℕ) (t : List ℕ) → Decides (leb 1 (length t) && (leb (length t) most && plain t)) (Told most t)
told most t =
    let d = both _ _ (at_most 1 (length t)) (both _ _ (at_most (length t) most) (both _ _ (letters-told t)
    (both _ _ (never _ (same_decides t (46 ∷ []))) (never _ (same_decides t (46 ∷ 46 ∷ [])))))) in (
      λ h. let k = d.0 h in record { some = k.0; few = k.1.0; every = k.1.1.0; no_dot = k.1.1.1.0; no_dots = k.1.1.1.1 },
      λ k. d.1 (k.some, (k.few, (k.every, (k.no_dot, k.no_dots)))),
    )

pub names_told : NamesTold
names_told = told 32

pub users_told : UsersTold
users_told = told 16

letter-high : (b : ℕ) → Letter b → 45 ≤ b
letter-high b h = omega arith

letters-high : (t : List ℕ) → AllByRecursion Letter t → AllByRecursion (λ b. 45 ≤ b) t
letters-high [] h = tt
letters-high (b ∷ bs) h = (letter-high b h.0, letters-high bs h.1)

-- No byte of a user or a name is below 45.
pub user-high : (t : List ℕ) → user t ≡ true → AllByRecursion (λ b. 45 ≤ b) t
user-high t h = letters-high t ((users_told t).0 h).every

pub name-high : (t : List ℕ) → name t ≡ true → AllByRecursion (λ b. 45 ≤ b) t
name-high t h = letters-high t ((names_told t).0 h).every
