use Rattle.std.proofs.Common.{rules}
use lib.Bits.{bit_xor}
use Rattle.mac.proofs.Mapped.{mapped}
use Rattle.mac.proofs.key.masked.Goals as goal

pub returns : goal.returns
returns c = mapped _ (λ x. bit_xor x c.args.mask) c.args.block.now 0 _ (λ i y q k. search rules) c.from_fn.result 64 0 c.told-block c.from_fn.ensures.items
