-- The words of the causes tell them apart, and hold no byte 10.
use Rattle.std.proofs.Common.{◌≡◌, ℕ, Bool, true, cond, not, ◌&&◌, eqb, List, [], ◌∷◌, Some, None, Option, sym, refl, MatchOption}
use Rattle.octets.specs.Equality.{same}
use Rattle.octets.proofs.Agreement.{same_decides}
use Rattle.std.proofs.lemmas.Bool.{and_parts, both_ways, cond_both, eq-eqb, not-true}
use Rattle.std.specs.List.{AllByRecursion}
use Rattle.causes.specs.declared.cause.Cause.{Cause}
use Rattle.causes.specs.declared.cause.Cause.TheVariants.{NoSpace, Held, BadName, PathTooLong, NoSuchName, AlreadyThere, NotEmpty, AtTop, ListTooLong}
use Rattle.causes.specs.Causes.{word, cause_of_word, WordsTellCauses, WordsUnbroken}

pub of_its_word : (c : Cause) → cause_of_word (word c) ≡ Some c
unfolding same
of_its_word NoSpace = refl
of_its_word Held = refl
of_its_word BadName = refl
of_its_word PathTooLong = refl
of_its_word NoSuchName = refl
of_its_word AlreadyThere = refl
of_its_word NotEmpty = refl
of_its_word AtTop = refl
of_its_word ListTooLong = refl

-- The answer o is right for the words t.
abbrev Right : List ℕ → Option Cause → Type 0
Right t o = MatchOption o ((c : Cause) → word c ≡ t → ⊥) (λ c. word c ≡ t)

-- One test: either its cause is right, or its words are not t.
tested : (t : List ℕ) (c : Cause) (o : Option Cause) → ((word c ≡ t → ⊥) → Right t o) → Right t (cond (same t (word c)) (Some c) o)
tested t c o k =
    let d = same_decides t (word c) in
    cond_both (same t (word c)) (Some c) o (λ x. Right t x) (λ e. sym (d.0 e)) (λ e. k (λ h. both_ways (same t (word c)) e (d.1 (sym h))))

-- Where every test fails, the words are no cause's.
none : (t : List ℕ) → (word NoSpace ≡ t → ⊥) → (word Held ≡ t → ⊥) → (word BadName ≡ t → ⊥) → (word PathTooLong ≡ t → ⊥) → (word NoSuchName ≡ t → ⊥)
    → (word AlreadyThere ≡ t → ⊥) → (word NotEmpty ≡ t → ⊥) → (word AtTop ≡ t → ⊥) → (word ListTooLong ≡ t → ⊥) → Right t None
none t n0 n1 n2 n3 n4 n5 n6 n7 n8 NoSpace = n0
none t n0 n1 n2 n3 n4 n5 n6 n7 n8 Held = n1
none t n0 n1 n2 n3 n4 n5 n6 n7 n8 BadName = n2
none t n0 n1 n2 n3 n4 n5 n6 n7 n8 PathTooLong = n3
none t n0 n1 n2 n3 n4 n5 n6 n7 n8 NoSuchName = n4
none t n0 n1 n2 n3 n4 n5 n6 n7 n8 AlreadyThere = n5
none t n0 n1 n2 n3 n4 n5 n6 n7 n8 NotEmpty = n6
none t n0 n1 n2 n3 n4 n5 n6 n7 n8 AtTop = n7
none t n0 n1 n2 n3 n4 n5 n6 n7 n8 ListTooLong = n8

pub word_of : (t : List ℕ) → Right t (cause_of_word t)
word_of t =
    tested t NoSpace _ (λ n0. tested t Held _ (λ n1. tested t BadName _ (λ n2. tested t PathTooLong _ (λ n3. tested t NoSuchName _ (λ n4.
    tested t AlreadyThere _ (λ n5. tested t NotEmpty _ (λ n6. tested t AtTop _ (λ n7. tested t ListTooLong _ (none t n0 n1 n2 n3 n4 n5 n6 n7)))))))))

pub words_tell_causes : WordsTellCauses
words_tell_causes = (of_its_word, word_of)

-- No byte 10, as a test.
abbrev unbroken : List ℕ → Bool
unbroken [] = true
unbroken (b ∷ bs) = not (eqb b 10) && unbroken bs

without : (t : List ℕ) → unbroken t ≡ true → AllByRecursion (λ b. b ≡ 10 → ⊥) t
without [] h = tt
without (b ∷ bs) h =
    let k = and_parts (not (eqb b 10)) (unbroken bs) h in
    (λ e. both_ways (eqb b 10) (not-true (eqb b 10) k.0) (eq-eqb b 10 e), without bs k.1)

word-unbroken : (c : Cause) → unbroken (word c) ≡ true
word-unbroken NoSpace = refl
word-unbroken Held = refl
word-unbroken BadName = refl
word-unbroken PathTooLong = refl
word-unbroken NoSuchName = refl
word-unbroken AlreadyThere = refl
word-unbroken NotEmpty = refl
word-unbroken AtTop = refl
word-unbroken ListTooLong = refl

pub words_unbroken : WordsUnbroken
words_unbroken c = without (word c) (word-unbroken c)
