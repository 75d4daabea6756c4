use Rattle.std.proofs.Common.{◌≡◌, ◌*◌, length, take, drop}
use Rattle.numerals.specs.Digests.{bytes_of, digest_of}
use Rattle.numerals.proofs.Characters.{before}
use Rattle.numerals.proofs.hexadecimal.digest.Given as goal

abbrev pub invariant-loop-i : goal.invariant-loop-i
invariant-loop-i l = (length l.bytes ≡ 32) × (before (take l.i l.bytes) (bytes_of (drop (2 * l.i) l.text)) ≡ digest_of l.text)
