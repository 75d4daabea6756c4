use Rattle.aes.specs.Cipher.{add_round_key, mix_columns, shift_rows, sub_bytes}
use Rattle.aes.proofs.state.one_round.Goals as goal

pub returns : goal.returns
unfolding add_round_key mix_columns shift_rows sub_bytes
returns c = cc
