use Rattle.std.proofs.Common.{◌≡◌, ◌+◌, ◌≤◌, drop}
use Rattle.numerals.specs.Decimals.{decimal_of}
use Rattle.numerals.proofs.Reading.{up_to}
use Rattle.numerals.proofs.decimals.read_up_to.Given as goal

abbrev pub invariant-loop-c : goal.invariant-loop-c
invariant-loop-c l = (l.n ≤ l.largest) × (up_to (l.largest + 1) l.n (drop l.c-index l.text) ≡ decimal_of (l.largest + 1) l.text)
