use Rattle.std.proofs.Common.{◌≡◌}
use Rattle.gcm.specs.Gcm.{absorb}
use Rattle.gcm.proofs.hash.absorb_bytes.Given as goal

abbrev pub invariant-loop-block : goal.invariant-loop-block
invariant-loop-block l = l.z ≡ absorb l.hash.h l.xs l.block-index l.y
