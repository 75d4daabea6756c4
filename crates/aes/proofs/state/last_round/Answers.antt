use Rattle.aes.specs.Cipher.{last_round, add_round_key, shift_rows, sub_bytes}
use Rattle.aes.proofs.state.last_round.Goals as goal

pub returns : goal.returns
unfolding last_round add_round_key shift_rows sub_bytes
returns c = cc
