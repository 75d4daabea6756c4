use Rattle.transfer.specs.Carried.{Holds}
use Rattle.transfer.proofs.carry_all.Given as goal

abbrev pub invariant-loop-number : goal.invariant-loop-number
invariant-loop-number g l = Holds l.initial.receiver l.scan → Holds l.receiver l.scan
