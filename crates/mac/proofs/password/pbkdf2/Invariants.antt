use Rattle.std.proofs.Common.{◌≡◌, ◌-◌, ◌≤◌, length}
use Rattle.mac.specs.Pbkdf2.{iterated, folded}
use Rattle.mac.proofs.password.pbkdf2.Given as goal

abbrev pub invariant-loop-round : goal.invariant-loop-round
invariant-loop-round l =
    (l.last ≡ iterated l.password l.salt (l._round - 1)) × (l.sum ≡ folded l.password l.salt (l._round - 1)) × (length l.last ≡ 32)
    × (l._round - 1 ≤ l.rounds - 1)
