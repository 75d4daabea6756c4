use Rattle.std.proofs.Common.{arith}
use Rattle.digest.proofs.Steps.{room_left, room_gone}
use Rattle.digest.proofs.hasher.Hasher.fill.Goals as goal

pub returns-then-end-eq64 : goal.returns-then-end-eq64
returns-then-end-eq64 c =
    rw c.copy_from_slice.ensures.after (room_gone c.args.self.now c.args.piece.now _ (omega arith) (omega arith) c.compress.new.state (omega arith) (omega arith) (rw c.copy_from_slice.ensures.after at c.compress.ensures))

pub returns-else-end-eq64 : goal.returns-else-end-eq64
returns-else-end-eq64 c =
    rw c.copy_from_slice.ensures.after (room_left c.args.self.now c.args.piece.now _ (omega arith) (omega arith) (omega arith))
