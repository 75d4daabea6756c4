-- The entries as a map from keys.
use Rattle.std.specs.Prelude.{◌≡◌, ℕ, cond, List, Some, None}
use Rattle.octets.specs.Equality.{same}
use Rattle.store.specs.Meaning.{Entry, find, insert, without}

-- An entry whose key was absent is found under its key alone, and every other key finds what it found; an entry taken out is found no
-- more, and every other key finds what it found.
pub record EntriesAsAMap : Type 0 where
  pub inserted : (e : Entry) (es : List Entry) (k : List ℕ) → find e.key es ≡ None → find k (insert e es) ≡ cond (same e.key k) (Some e) (find k es)
  pub removed : (j k : List ℕ) (es : List Entry) → find k (without j es) ≡ cond (same j k) None (find k es)
