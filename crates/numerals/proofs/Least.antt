-- Every character of a decimal and of a digest's text is '0' or comes after it.
use Rattle.std.proofs.Common.{◌≡◌, ℕ, ◌/◌, ◌%◌, ◌^◌, ◌<◌, ◌≤◌, true, leb, List, [], ◌∷◌, Some, decimal, sym, subst, arith}
use Rattle.octets.specs.Hexadecimal.{digit, hexadecimal}
use Rattle.std.specs.List.{AllByRecursion}
use Rattle.std.proofs.lemmas.Fmt.{digits_decimal}
use Rattle.std.proofs.lemmas.Bool.{and_parts, leb-true}
use Rattle.std.proofs.lemmas.Bool.Decides.{nat_tests}
use Rattle.numerals.specs.Decimals.{is_digit, only_digits}
use Rattle.numerals.specs.Digests.{digest_of}
use Rattle.numerals.proofs.Back.{own, digests_read_back}

digits_least : (t : List ℕ) → only_digits t ≡ true → AllByRecursion (λ b. 48 ≤ b) t
unfolding only_digits
digits_least [] e = tt
digits_least (c ∷ t) e =
    let p = and_parts (is_digit c) (only_digits t) e in
    (leb-true 48 c (and_parts (leb 48 c) (leb c 57) p.0).0, digits_least t p.1)

pub decimal_least : (n : ℕ) → n < 2 ^ 64 → AllByRecursion (λ b. 48 ≤ b) (decimal n)
decimal_least n h = digits_least (decimal n) (digits_decimal own n h)

digit_least : (d : ℕ) → 48 ≤ digit d
digit_least d = grind (arith, nat_tests)

pub hexadecimal_least : (bs : List ℕ) → AllByRecursion (λ b. 48 ≤ b) (hexadecimal bs)
unfolding hexadecimal
hexadecimal_least [] = tt
hexadecimal_least (b ∷ bs) = (digit_least (b / 16), (digit_least (b % 16), hexadecimal_least bs))

pub read_digest_least : (t bs : List ℕ) → digest_of t ≡ Some bs → AllByRecursion (λ b. 48 ≤ b) t
read_digest_least t bs e = subst (λ (u : List ℕ). AllByRecursion (λ b. 48 ≤ b) u) (sym (digests_read_back.only t bs e).0) (hexadecimal_least bs)
