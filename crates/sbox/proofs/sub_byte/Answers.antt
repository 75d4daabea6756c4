use Prim.Native.Nat.{◌<◌}
use borrow.Author.Rules.{rules}
use Rattle.sbox.proofs.Rule.{rule, inverse_is}
use Rattle.sbox.proofs.sub_byte.Goals as goal

pub returns : goal.returns
returns c =
    let h : c.args.b < 256 = search rules in
    record { value = rule c.args.b h; inverse = inverse_is c.args.b h }
