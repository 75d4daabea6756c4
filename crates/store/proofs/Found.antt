-- What a key finds after an entry was put in or taken out.
use Rattle.std.proofs.Common.{◌≡◌, ℕ, Bool, true, false, cond, List, [], ◌∷◌, Some, None, Option, sym, refl, ◌∙◌, arith}
use Rattle.std.proofs.lemmas.Bool.{both_ways}
use Rattle.octets.specs.Equality.{same}
use Rattle.octets.proofs.Agreement.{same_decides}
use Rattle.store.specs.Meaning.{Entry, below, find, insert, without}
use Rattle.store.specs.Laws.{EntriesAsAMap}

-- Two keys that are both k are the same key.
both-same : (a b k : List ℕ) → same a k ≡ true → same b k ≡ true → same a b ≡ true
both-same a b k p q = (same_decides a b).1 ((same_decides a k).0 p ∙ sym ((same_decides b k).0 q))

-- A key that finds nothing is not the first one's, and finds nothing in the rest.
nothing : (f : Entry) (rest : Option Entry) (q : Bool) → cond q (Some f) rest ≡ None → (q ≡ false) × (rest ≡ None)
nothing f rest true h = let z : ◌≡◌ {A = ℕ} 0 1 = cc in absurd (omega arith)
nothing f rest false h = (refl, h)

-- Two tests of which one holds at most can change places.
swapped : (x y : Entry) (r : Option Entry) (p q : Bool) → (p ≡ true → q ≡ true → ⊥) → cond p (Some x) (cond q (Some y) r) ≡ cond q (Some y) (cond p (Some x) r)
swapped x y r true true h = absurd (h refl refl)
swapped x y r true false h = refl
swapped x y r false true h = refl
swapped x y r false false h = refl

-- Past the first entry f: e goes before it, or in its place among the rest.
inserted_more : (e f : Entry) (fs : List Entry) (k : List ℕ) (q : Bool) → same f.key e.key ≡ false
    → find k (insert e fs) ≡ cond (same e.key k) (Some e) (find k fs)
    → find k (cond q (e ∷ (f ∷ fs)) (f ∷ insert e fs)) ≡ cond (same e.key k) (Some e) (cond (same f.key k) (Some f) (find k fs))
inserted_more e f fs k true n i = refl
inserted_more e f fs k false n i =
    rw i (swapped f e (find k fs) (same f.key k) (same e.key k)
    (λ s t. both_ways (same f.key e.key) n (both-same f.key e.key k s t)))

found_inserted : (e : Entry) (es : List Entry) (k : List ℕ) → find e.key es ≡ None → find k (insert e es) ≡ cond (same e.key k) (Some e) (find k es)
found_inserted e [] k h = refl
found_inserted e (f ∷ fs) k h =
    let n = nothing f (find e.key fs) (same f.key e.key) h in
    inserted_more e f fs k (below e.key f.key) n.0 (found_inserted e fs k n.1)

none_either_way : (q : Bool) → None ≡ cond {A = Option Entry} q None None
none_either_way true = refl
none_either_way false = refl

-- Past the first entry f: it goes out, or stays.
removed_more : (j k : List ℕ) (f : Entry) (fs : List Entry) (p q r : Bool) → same f.key j ≡ p → same j k ≡ q → same f.key k ≡ r
    → find k (without j fs) ≡ cond q None (find k fs)
    → find k (cond p (without j fs) (f ∷ without j fs)) ≡ cond q None (cond r (Some f) (find k fs))
removed_more j k f fs true true r a b c i = i
removed_more j k f fs true false true a b c i =
    absurd (both_ways (same j k) b ((same_decides j k).1 (sym ((same_decides f.key j).0 a) ∙ (same_decides f.key k).0 c)))
removed_more j k f fs true false false a b c i = i
removed_more j k f fs false true true a b c i =
    absurd (both_ways (same f.key j) a ((same_decides f.key j).1 ((same_decides f.key k).0 c ∙ sym ((same_decides j k).0 b))))
removed_more j k f fs false true false a b c i = rw c i
removed_more j k f fs false false r a b c i = rw (c, i)

found_removed : (j k : List ℕ) (es : List Entry) → find k (without j es) ≡ cond (same j k) None (find k es)
found_removed j k [] = none_either_way (same j k)
found_removed j k (f ∷ fs) = removed_more j k f fs (same f.key j) (same j k) (same f.key k) refl refl refl (found_removed j k fs)

pub entries_as_a_map : EntriesAsAMap
entries_as_a_map = record { inserted = found_inserted; removed = found_removed }
