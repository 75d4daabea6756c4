use Rattle.std.proofs.Common.{◌≡◌, ◌/◌, ◌%◌, arith}
use lib.Bits.{and_mask}
use Rattle.aes.specs.Cipher.{add_round_key, load}
use Rattle.aes.proofs.state.begun.Goals as goal

pub returns : goal.returns
unfolding add_round_key load
returns c =
    let b = c.args.block in
    let e : b / 79228162514264337593543950336 ≡ b / 79228162514264337593543950336 % 4294967296 = omega arith in
    cc (e, and_mask (b / 18446744073709551616) 32, and_mask (b / 4294967296) 32, and_mask b 32)
