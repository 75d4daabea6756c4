-- What a store means: entries in the byte order of their keys, at most one draft, and two tables.
use Rattle.std.specs.Prelude.{◌≡◌, ℕ, ◌+◌, ◌^◌, ◌<◌, ◌≤◌, min, Bool, true, false, cond, List, [], ◌∷◌, ◌++◌, length, take, drop, Some, None, Option, ◌==◌, nat_lt}
use Rattle.std.specs.Option.{option_map}
use Rattle.octets.specs.Equality.{same}
use Rattle.octets.specs.Fronts.{at_front}
use Rattle.store.specs.declared.pending.Pending.{Pending}

-- A file that is kept.
pub record Entry : Type 0 where
  pub key : List ℕ
  pub day : ℕ
  pub bytes : List ℕ

-- The file that is being written: its announced size, and the bytes so far.
pub record Draft : Type 0 where
  pub key : List ℕ
  pub size : ℕ
  pub day : ℕ
  pub bytes : List ℕ

-- For each key and size, or key and day: none, or the level that lacks space, or that holds.
abbrev pub Table : Type 0
Table = List ℕ → ℕ → Option ℕ

-- What a store has besides its entries.
pub record State : Type 0 where
  pub draft : Option Draft
  pub spaces : Table
  pub holds : Table

-- Byte order: strictly below.
abbrev pub below : List ℕ → List ℕ → Bool
below [] [] = false
below [] (y ∷ ys) = true
below (x ∷ xs) [] = false
below (x ∷ xs) (y ∷ ys) = cond (x == y) (below xs ys) (nat_lt x y)

-- The entry of a key.
abbrev pub find : List ℕ → List Entry → Option Entry
find k [] = None
find k (e ∷ es) = cond (same e.key k) (Some e) (find k es)

-- The least key above a given one, where the entries are in order.
abbrev pub next : List ℕ → List Entry → Option (List ℕ)
next k [] = None
next k (e ∷ es) = cond (below k e.key) (Some e.key) (next k es)

-- The entries with one more, in its place, and with that of a key taken out.
abbrev pub insert : Entry → List Entry → List Entry
insert e [] = e ∷ []
insert e (f ∷ fs) = cond (below e.key f.key) (e ∷ (f ∷ fs)) (f ∷ insert e fs)

abbrev pub without : List ℕ → List Entry → List Entry
without k [] = []
without k (e ∷ es) = cond (same e.key k) (without k es) (e ∷ without k es)

-- The keys rise strictly, so that there is one entry for each key.
abbrev pub Above : List ℕ → List Entry → Type 0
Above k [] = Unit {0}
Above k (e ∷ es) = (below k e.key ≡ true) × Above k es

abbrev pub Ordered : List Entry → Type 0
Ordered [] = Unit {0}
Ordered (e ∷ es) = Above e.key es × Ordered es

-- A key has 1 to 96 bytes, a size and a day are below 2^32.
pub record Fitting (e : Entry) : Type 0 where
  pub some_key : 0 < length e.key
  pub short_key : length e.key ≤ 96
  pub small : length e.bytes < 2 ^ 32
  pub early : e.day < 2 ^ 32

abbrev pub AllFitting : List Entry → Type 0
AllFitting [] = Unit {0}
AllFitting (e ∷ es) = Fitting e × AllFitting es

-- What holds of the entries of every store.
pub record Lawful (es : List Entry) : Type 0 where
  pub ordered : Ordered es
  pub fitting : AllFitting es

-- Size and day, as look tells them.
abbrev pub size_and_day : Entry → ℕ × ℕ
size_and_day e = (length e.bytes, e.day)

-- The bytes of an entry; none where it is absent.
abbrev pub contents : Option Entry → List ℕ
contents None = []
contents (Some e) = e.bytes

-- What read copies into a buffer: the bytes from an offset on, as many as there are and fit.
abbrev pub part : List ℕ → ℕ → List ℕ → List ℕ
part bs offset buffer = take (length buffer) (drop offset bs)

-- A key at the front of a buffer, if there is one.
abbrev pub key_at_front : Option (List ℕ) → List ℕ → List ℕ
key_at_front None buffer = buffer
key_at_front (Some k) buffer = at_front k buffer

-- A draft as pending tells it: the length of its key, its size, and the number of bytes so far.
abbrev pub told : Draft → Pending
told d = record { key = length d.key; size = d.size; so_far = length d.bytes }

-- The same state with another draft.
abbrev pub with_draft : State → Option Draft → State
with_draft st d = record { draft = d; spaces = st.spaces; holds = st.holds }

-- A draft without bytes yet, and one with more bytes.
abbrev pub fresh : List ℕ → ℕ → ℕ → Draft
fresh k n day = record { key = k; size = n; day = day; bytes = [] }

abbrev pub grown : Draft → List ℕ → Draft
grown d bs = record { key = d.key; size = d.size; day = d.day; bytes = d.bytes ++ bs }

-- The entries once a draft is kept.
abbrev pub kept : Draft → Entry
kept d = record { key = d.key; day = d.day; bytes = d.bytes }

abbrev pub stored : Option Draft → List Entry → List Entry
stored None es = es
stored (Some d) es = insert (kept d) es

-- A level, and a table, as the layer above tells them: one higher, to 255 at most.
abbrev pub up : ℕ → ℕ
up l = min (l + 1) 255

abbrev pub raised : Table → Table
raised t k n = option_map up (t k n)
