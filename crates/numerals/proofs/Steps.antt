-- A decimal written at the front of a buffer, one digit more.
use Rattle.std.proofs.Common.{◌≡◌, ℕ, ◌+◌, ◌/◌, ◌%◌, ◌^◌, ◌<◌, ◌≤◌, List, [], ◌∷◌, ◌++◌, length, get_or, take, drop, set, decimal, sym, refl, ap, ◌∙◌, append_assoc, arith}
use Rattle.octets.specs.Fronts.{at_front}
use Rattle.std.proofs.lemmas.Fmt.{decimal_digit, decimal_step, length-decimal-le}
use Rattle.std.proofs.lemmas.List.{drop_more, length_push, set_at, take_at}

-- What a call has written: the clauses of its contract.
pub record Written (n r : ℕ) (old new : List ℕ) : Type 0 where
  pub value : r ≡ length (decimal n)
  pub after : new ≡ at_front (decimal n) old
  pub front : take r new ≡ decimal n
  pub bound : r ≤ 20

pub short : (n : ℕ) → n < 2 ^ 64 → length (decimal n) ≤ 20
short n h = length-decimal-le 20 n (omega arith) (omega arith) h

-- A longer number has room for its last digit.
pub room : (n : ℕ) → 10 ≤ n → n < 2 ^ 64 → length (decimal (n / 10)) + 1 ≡ length (decimal n)
room n h l = sym (ap length (decimal_step n h l) ∙ length_push (decimal (n / 10)) (48 + n % 10))

-- One byte more at the front.
push : (xs old : List ℕ) (d : ℕ) → length xs < length old → set (at_front xs old) (length xs) d ≡ at_front (xs ++ (d ∷ [])) old
push xs old d h =
    ap (λ z. set (xs ++ z) (length xs) d) (drop_more old (length xs) 0 h)
    ∙ set_at xs (get_or old (length xs) 0) (drop (length xs + 1) old) d (length xs) refl
    ∙ sym (append_assoc xs (d ∷ []) (drop (length xs + 1) old))
    ∙ ap (λ m. (xs ++ (d ∷ [])) ++ drop m old) (sym (length_push xs d))

written : (n r : ℕ) (old new : List ℕ) → n < 2 ^ 64 → r ≡ length (decimal n) → new ≡ at_front (decimal n) old → Written n r old new
written n r old new h v a =
    record {
      value = v;
      after = a;
      front = ap (take r) a ∙ take_at (decimal n) (drop (length (decimal n)) old) r (sym v);
      bound = omega (arith, short n h);
    }

pub first : (n d : ℕ) (old : List ℕ) → n < 10 → 0 < length old → d ≡ 48 + n % 10 → Written n 1 old (set old 0 d)
first n d old h k e =
    let s : d ∷ [] ≡ decimal n = ap (λ y. y ∷ []) (omega arith) ∙ sym (decimal_digit n h) in
    written n 1 old (set old 0 d) (omega arith) (ap length s) (push [] old d k ∙ ap (λ z. at_front z old) s)

pub more : (n r d : ℕ) (old new : List ℕ) → 10 ≤ n → n < 2 ^ 64 → length old ≡ 20
    → r ≡ length (decimal (n / 10)) → new ≡ at_front (decimal (n / 10)) old → d ≡ 48 + n % 10 → Written n (r + 1) old (set new r d)
more n r d old new h l k v a e =
    let ds : List ℕ = decimal (n / 10) in
    let s : ds ++ (d ∷ []) ≡ decimal n = ap (λ y. ds ++ (y ∷ [])) e ∙ sym (decimal_step n h l) in
    let m : length ds < length old = omega (arith, room n h l, short n l) in
    written n (r + 1) old (set new r d) l (ap (λ m. m + 1) v ∙ room n h l)
    (ap (λ z. set z r d) a ∙ ap (λ m. set (at_front ds old) m d) v ∙ push ds old d m ∙ ap (λ z. at_front z old) s)
