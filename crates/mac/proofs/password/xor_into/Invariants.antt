use Rattle.std.proofs.Common.{◌≡◌}
use Rattle.mac.proofs.Bytes.{part}
use Rattle.mac.proofs.password.xor_into.Given as goal

abbrev pub invariant-loop-i : goal.invariant-loop-i
invariant-loop-i l = l.sum ≡ part l.initial.sum l.by l.i
