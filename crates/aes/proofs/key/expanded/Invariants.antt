use Rattle.std.proofs.Common.{◌≡◌, ◌-◌, length, take}
use Rattle.aes.specs.Words.{key_words, expand}
use Rattle.aes.proofs.key.expanded.Given as goal

abbrev pub invariant-loop-i : goal.invariant-loop-i
invariant-loop-i l = (length l.words ≡ 60) × (take l.i l.words ≡ key_words l.i l.key)

abbrev pub invariant-loop-j : goal.invariant-loop-j
invariant-loop-j l = (length l.words ≡ 60) × (take l.j l.words ≡ expand (l.j - 8) (key_words 8 l.key))
