use mathlib.Core.Path.{◌≡◌}
use Prim.Native.Nat.{◌/◌}
use native.Mathlib.Omega.{arith}
use lib.Bits.{xor_zero_r}
use Rattle.ghash.specs.Field.{partial}
use Rattle.ghash.proofs.rows.nibble_product.Goals as goal

pub returns : goal.returns
unfolding partial
returns c =
    let n = c.args.n in
    let b0 : n / 1 ≡ n = omega arith in
    cc (xor_zero_r c.pick_block-4.result)
