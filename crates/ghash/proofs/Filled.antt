-- The table of products, row by row.
use Rattle.std.proofs.Common.{◌≡◌, ℕ, ◌+◌, ◌*◌, ◌<◌, ◌≢◌, List, [], length, get_or, set, arith, below_more, get_or-set_same, get_or-set_other}
use Rattle.ghash.specs.Field.{halves}
use Rattle.ghash.specs.Table.{IsRow, Rows}

pub rows_more : (m h v : ℕ) (r : List ℕ) (rows : List (List ℕ)) → m < length rows → v ≡ halves (4 * m) h → Rows m h rows → IsRow v r → Rows (m + 1) h (set rows m r)
rows_more m h v r rows lt e so_far right =
    below_more (λ j. IsRow (halves (4 * j) h) (get_or (set rows m r) j [])) m
    (λ j below. let ne : j ≢ m = omega arith in rw get_or-set_other (so_far j below))
    (rw (get_or-set_same, ← e) right)
