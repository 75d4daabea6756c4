-- What the table of products of h holds: in row j at n, the product of h with the block whose nibble j is n and which is 0 elsewhere.
use Rattle.std.specs.Prelude.{ℕ, ◌*◌, ◌<◌, ◌≡◌, List, [], slice_index, slice_index_or}
use Rattle.ghash.specs.Field.{halves, partial}

-- The products of v with each of the 16 nibbles.
abbrev pub IsRow : ℕ → List ℕ → Type 0
IsRow v row = (n : ℕ) → n < 16 → slice_index row n ≡ partial 4 n v

-- The first m rows are right: that of place j is of h moved by j nibbles.
abbrev pub Rows : ℕ → ℕ → List (List ℕ) → Type 0
Rows m h rows = (j : ℕ) → j < m → IsRow (halves (4 * j) h) (slice_index_or rows j [])

-- All 32 are.
abbrev pub Products : ℕ → List (List ℕ) → Type 0
Products h rows = Rows 32 h rows
