use Rattle.std.proofs.Common.{◌-◌, length, ◌∙◌, arith, le-ltb, lt-ltb}
use Rattle.mac.specs.Hmac.{key_block}
use Rattle.mac.proofs.Bytes.{in_front}
use Rattle.mac.proofs.key.key_block.Goals as goal

pub returns-then-key-gt64 : goal.returns-then-key-gt64
unfolding key_block
returns-then-key-gt64 c =
    in_front c.copy_from_slice.new.self 32 (omega arith)
    ∙ simp (c.copy_from_slice.ensures.after, c.sha256.ensures, lt-ltb 64 (length c.args.key.now) (omega arith))

pub returns-else-key-gt64 : goal.returns-else-key-gt64
unfolding key_block
returns-else-key-gt64 c =
    in_front c.copy_from_slice-else-key-gt64.new.self (length c.args.key.now - 0) (omega arith)
    ∙ simp (c.copy_from_slice-else-key-gt64.ensures.after, le-ltb 64 (length c.args.key.now) (omega arith))
