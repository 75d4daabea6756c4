use Rattle.std.proofs.Common.{◌≡◌, ◌*◌, length}
use Rattle.ghash.specs.Field.{halves}
use Rattle.ghash.specs.Table.{Rows}
use Rattle.ghash.proofs.rows.products.Given as goal

abbrev pub invariant-loop-place : goal.invariant-loop-place
invariant-loop-place l = (l.v ≡ halves (4 * l.place-index) l.h) × (length l.place-items ≡ 32) × Rows l.place-index l.h l.place-items
