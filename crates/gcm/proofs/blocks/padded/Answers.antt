use Rattle.std.proofs.Common.{◌≡◌, ◌-◌, length, replicate, ◌∙◌, arith}
use borrow.Rule.Slice.PartMut.{put_mid}
use Rattle.gcm.specs.Blocks.{number}
use Rattle.gcm.proofs.Numbers.{padding}
use Rattle.gcm.proofs.blocks.padded.Goals as goal

read : (c : goal.After-from_be_bytes) → c.from_be_bytes.result ≡ number (put_mid 0 (length c.args.xs.now - 0) (replicate 16 0) c.copy_from_slice.new.self)
unfolding number
read c = c.from_be_bytes.ensures

pub returns : goal.returns
returns c = read c ∙ rw c.copy_from_slice.ensures.after (padding c.args.xs.now (length c.args.xs.now - 0) (omega arith) (omega arith))
