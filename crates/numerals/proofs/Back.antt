-- What is written is read back, and nothing else is read.
use Rattle.std.proofs.Common.{◌≡◌, ℕ, ◌+◌, ◌*◌, ◌/◌, ◌%◌, ◌^◌, ◌<◌, ◌≤◌, Bool, true, false, cond, ◌&&◌, ltb, List, [], ◌∷◌, length, get_or, Some, None, decimal, Option, sym, refl, ap, ◌∙◌, inl, inr, arith, rules}
use borrow.Author.Tests.{clash}
use Rattle.octets.specs.Hexadecimal.{digit, hexadecimal}
use Rattle.std.specs.List.{AllByRecursion}
use Rattle.std.proofs.lemmas.Fmt.{decimal_digit, decimal_nonempty, decimal-digits_value, digits_decimal, first_decimal, digits_value-decimal}
use Rattle.std.proofs.lemmas.Str.Parse.{IsNumeralModel, numerals_by_fold}
use Rattle.std.proofs.lemmas.Bool.{and_parts, cases_lt, eq-eqb, eqb-false, eqb-true, lt-ltb, ltb-true, ne_eqb, not-true, not_from_false}
use Rattle.std.proofs.lemmas.Bool.Decides.{nat_tests}
use Rattle.numerals.specs.Decimals.{only_digits, plain, number_after, decimal_as, decimal_of}
use Rattle.numerals.specs.Digests.{digit_of, byte_of, joined, bytes_of, sized, digest_of}
use Rattle.numerals.specs.Laws.{DecimalsReadBack, DigestsReadBack}

-- The words of the definition are the library's.
pub own : IsNumeralModel (λ t. only_digits t ≡ true) (number_after 0)
unfolding only_digits number_after
own = numerals_by_fold _ (search rules) number_after (search rules)

-- Nothing is not something.
none_not_some : {A : Type 0} {x : A} → ◌≡◌ {A = Option A} None (Some x) → ⊥
none_not_some h = let z : ◌≡◌ {A = ℕ} 0 1 = cc in omega arith

some_only : (b : Bool) (x n : ℕ) → cond b (Some x) None ≡ Some n → (b ≡ true) × (x ≡ n)
some_only true x n e = (refl, cc)
some_only false x n e = absurd (none_not_some e)

-- What a text that is read as n is.
pub record Reads (k n : ℕ) (t : List ℕ) : Type 0 where
  pub plainly : plain t ≡ true
  pub digits : only_digits t ≡ true
  pub number : number_after 0 t ≡ n
  pub within : n < k

pub reads : (k n : ℕ) (t : List ℕ) → decimal_of k t ≡ Some n → Reads k n t
unfolding decimal_as
reads k n t e =
    let s = some_only (plain t && (only_digits t && ltb (number_after 0 t) k)) (number_after 0 t) n e in
    let p = and_parts (plain t) (only_digits t && ltb (number_after 0 t) k) s.0 in
    let q = and_parts (only_digits t) (ltb (number_after 0 t) k) p.1 in
    record { plainly = p.0; digits = q.0; number = s.1; within = omega (arith, ltb-true (number_after 0 t) k q.1, s.1) }

is_read : (k n : ℕ) (t : List ℕ) → Reads k n t → decimal_of k t ≡ Some n
unfolding decimal_as
is_read k n t r = rw (r.plainly, r.digits, r.number, lt-ltb n k r.within)

lead_plain : (t : List ℕ) → 0 < length t → (get_or t 0 0 ≡ 48 → length t ≡ 1) → plain t ≡ true
lead_plain [] h f = absurd (omega arith)
lead_plain (c ∷ []) h f = refl
lead_plain (c ∷ d ∷ t) h f = not_from_false _ (ne_eqb c 48 (λ z. omega (arith, f z)))

plain_some : (t : List ℕ) → plain t ≡ true → 0 < length t
plain_some [] p = absurd (clash p)
plain_some (c ∷ t) p = omega arith

plain_lead : (t : List ℕ) → plain t ≡ true → get_or t 0 0 ≡ 48 → length t ≡ 1
plain_lead [] p z = absurd (clash p)
plain_lead (c ∷ []) p z = refl
plain_lead (c ∷ d ∷ t) p z = absurd (eqb-false c 48 (not-true _ p) z)

decimal_lead : (n : ℕ) → n < 2 ^ 64 → get_or (decimal n) 0 0 ≡ 48 → length (decimal n) ≡ 1
decimal_lead n h z =
    elim (cases_lt 0 n) [ inl l ↦ absurd (omega (arith, first_decimal n l h)) | inr l ↦ ap length (decimal_digit n (omega arith)) ]

decimal_reads_back : (k n : ℕ) → n < k → k ≤ 2 ^ 64 → decimal_of k (decimal n) ≡ Some n
decimal_reads_back k n h l =
    let m : n < 2 ^ 64 = omega arith in
    is_read k n (decimal n)
    (record {
      plainly = lead_plain (decimal n) (decimal_nonempty n m) (decimal_lead n m);
      digits = digits_decimal own n m;
      number = digits_value-decimal own n m;
      within = h;
    })

decimal_only : (k n : ℕ) (t : List ℕ) → k ≤ 2 ^ 64 → decimal_of k t ≡ Some n → (t ≡ decimal n) × (n < k)
decimal_only k n t l e =
    let r = reads k n t e in
    let w : number_after 0 t < 2 ^ 64 = omega (arith, r.number, r.within) in
    (sym (decimal-digits_value own t r.digits (plain_some t r.plainly) (plain_lead t r.plainly) w) ∙ ap decimal r.number, r.within)

pub decimals_read_back : DecimalsReadBack
decimals_read_back = record { back = decimal_reads_back; only = decimal_only }

digit_back : (d : ℕ) → d < 16 → digit_of (digit d) ≡ Some d
digit_back d h = grind (arith, nat_tests)

bytes_back : (bs : List ℕ) → AllByRecursion (λ b. b < 256) bs → bytes_of (hexadecimal bs) ≡ Some bs
unfolding bytes_of hexadecimal
bytes_back [] a = refl
bytes_back (b ∷ bs) a =
    let h : b / 16 < 16 = omega (arith, a.0) in
    let l : b % 16 < 16 = omega arith in
    let e : b / 16 * 16 + b % 16 ≡ b = omega arith in
    rw (digit_back (b / 16) h, digit_back (b % 16) l, bytes_back bs a.1, e)

length-hexadecimal : (bs : List ℕ) → length (hexadecimal bs) ≡ 2 * length bs
unfolding hexadecimal
length-hexadecimal [] = refl
length-hexadecimal (b ∷ bs) = omega (arith, length-hexadecimal bs)

digest_back : (bs : List ℕ) → length bs ≡ 32 → AllByRecursion (λ b. b < 256) bs → digest_of (hexadecimal bs) ≡ Some bs
unfolding digest_of
digest_back bs l a =
    let s : sized (hexadecimal bs) ≡ true = eq-eqb (length (hexadecimal bs)) 64 (omega (arith, length-hexadecimal bs)) in
    rw s (bytes_back bs a)

digit_only : (c d : ℕ) → digit_of c ≡ Some d → (c ≡ digit d) × (d < 16)
digit_only c d e = (grind (arith, nat_tests), grind (arith, nat_tests))

byte_only : (a b x : ℕ) → byte_of (digit_of a) (digit_of b) ≡ Some x → (a ≡ digit (x / 16)) × (b ≡ digit (x % 16))
byte_only a b x e = go (digit_of a) (digit_of b) refl refl e
  where
    go : (o p : Option ℕ) → digit_of a ≡ o → digit_of b ≡ p → byte_of o p ≡ Some x → (a ≡ digit (x / 16)) × (b ≡ digit (x % 16))
    go None p f g i = absurd (none_not_some i)
    go (Some h) None f g i = absurd (none_not_some i)
    go (Some h) (Some l) f g i =
        let q : h * 16 + l ≡ x = cc in
        let u = digit_only a h f in
        let v = digit_only b l g in
        (u.0 ∙ ap digit (omega (arith, v.1)), v.0 ∙ ap digit (omega (arith, v.1)))

joined_only : (o : Option ℕ) (p : Option (List ℕ)) (bs : List ℕ) → joined o p ≡ Some bs
    → (x : ℕ) × ((xs : List ℕ) × ((o ≡ Some x) × (p ≡ Some xs) × (x ∷ xs ≡ bs)))
joined_only None p bs e = absurd (none_not_some e)
joined_only (Some x) None bs e = absurd (none_not_some e)
joined_only (Some x) (Some xs) bs e = (x, (xs, (refl, refl, cc)))

bytes_only : (t bs : List ℕ) → bytes_of t ≡ Some bs → t ≡ hexadecimal bs
unfolding bytes_of hexadecimal
bytes_only [] bs e = let q : [] ≡ bs = cc in ap hexadecimal q
bytes_only (a ∷ []) bs e = absurd (none_not_some e)
bytes_only (a ∷ b ∷ t) bs e =
    let j = joined_only (byte_of (digit_of a) (digit_of b)) (bytes_of t) bs e in
    let x : ℕ = j.0 in
    let xs : List ℕ = j.1.0 in
    let p = byte_only a b x j.1.1.0 in
    let q : t ≡ hexadecimal xs = bytes_only t xs j.1.1.1 in
    let u : a ≡ digit (x / 16) = p.0 in
    let v : b ≡ digit (x % 16) = p.1 in
    (λ i. u i ∷ v i ∷ q i) ∙ ap hexadecimal j.1.1.2

pub sized_only : (b : Bool) (o : Option (List ℕ)) (bs : List ℕ) → cond b o None ≡ Some bs → (b ≡ true) × (o ≡ Some bs)
sized_only true o bs e = (refl, e)
sized_only false o bs e = absurd (none_not_some e)

digest_only : (t bs : List ℕ) → digest_of t ≡ Some bs → (t ≡ hexadecimal bs) × (length bs ≡ 32)
unfolding digest_of
digest_only t bs e =
    let s = sized_only (sized t) (bytes_of t) bs e in
    let q : t ≡ hexadecimal bs = bytes_only t bs s.1 in
    (q, omega (arith, eqb-true (length t) 64 s.0, ap length q, length-hexadecimal bs))

pub digests_read_back : DigestsReadBack
digests_read_back = record { back = digest_back; only = digest_only }
