-- Blocks of bytes: two lists xored in place, and bytes in front of zeros.
use Rattle.std.proofs.Common.{◌≡◌, ℕ, zero, suc, ◌-◌, ◌<◌, List, [], ◌∷◌, ◌++◌, length, get_or, take, drop, set, replicate, refl, ap, arith}
use lib.Bits.{bit_xor}
use borrow.Rule.Slice.PartMut.{put_mid}
use Rattle.std.proofs.lemmas.List.{drop-replicate}
use Rattle.mac.specs.Pbkdf2.{xors}

-- xs with its first i places xored.
abbrev pub part : List ℕ → List ℕ → ℕ → List ℕ
part xs ys i = xors (take i xs) (take i ys) ++ drop i xs

pub part-more : (xs ys : List ℕ) (i : ℕ) → i < length xs → i < length ys
    → set (part xs ys i) i (bit_xor (get_or (part xs ys i) i 0) (get_or ys i 0)) ≡ part xs ys (suc i)
part-more [] ys i h l = absurd (omega arith)
part-more (x ∷ xs) [] i h l = absurd (omega arith)
part-more (x ∷ xs) (y ∷ ys) zero h l = refl
part-more (x ∷ xs) (y ∷ ys) (suc i) h l = ap {B = List ℕ} (λ r. bit_xor x y ∷ r) (part-more xs ys i (omega arith) (omega arith))

-- Bytes at the front of a block of zeros.
pub in_front : (ys : List ℕ) (n : ℕ) → n ≡ length ys → put_mid 0 n (replicate 64 0) ys ≡ ys ++ replicate (64 - length ys) 0
in_front ys n e = rw e (ap (λ r. ys ++ r) (drop-replicate (length ys) 64 0))
