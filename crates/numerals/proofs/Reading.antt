-- A decimal, one digit at a time.
use Rattle.std.proofs.Common.{◌≡◌, ℕ, ◌+◌, ◌-◌, ◌*◌, ◌<◌, ◌≤◌, Bool, true, false, cond, ◌&&◌, ltb, List, [], ◌∷◌, length, get_or, drop, Some, None, Option, sym, ap, ◌∙◌, arith}
use Rattle.std.specs.Option.{option_map}
use Rattle.std.proofs.lemmas.List.{drop_more, drop_all}
use Rattle.std.proofs.lemmas.Bool.{and_right, cond-false, le-ltb, lt-ltb}
use Rattle.numerals.specs.Decimals.{is_digit, only_digits, plain, number_after, decimal_as, decimal_of}

-- The number below k that the digits of n and those of a text stand for.
abbrev pub up_to : ℕ → ℕ → List ℕ → Option ℕ
up_to k n t = cond (only_digits t && ltb (number_after n t) k) (Some (number_after n t)) None

grows : (n : ℕ) (t : List ℕ) → n ≤ number_after n t
unfolding number_after
grows n [] = omega arith
grows n (c ∷ t) = omega (arith, grows (n * 10 + (c - 48)) t)

too_large : (k n : ℕ) (t : List ℕ) → k ≤ n → up_to k n t ≡ None
too_large k n t h =
    let l : ltb (number_after n t) k ≡ false = le-ltb (number_after n t) k (omega (arith, grows n t)) in
    cond-false (only_digits t && ltb (number_after n t) k) (Some (number_after n t)) None (and_right (only_digits t) (ltb (number_after n t) k) l)

more_at : (k n c : ℕ) (t : List ℕ) → is_digit c ≡ true → up_to k n (c ∷ t) ≡ up_to k (n * 10 + (c - 48)) t
unfolding only_digits number_after
more_at k n c t q = rw q

stops_at : (k n c : ℕ) (t : List ℕ) → is_digit c ≡ false → up_to k n (c ∷ t) ≡ None
unfolding only_digits number_after
stops_at k n c t q = rw q

ends_at : (k n : ℕ) → n < k → up_to k n [] ≡ Some n
unfolding only_digits number_after
ends_at k n h = rw (lt-ltb n k h)

-- A text that is not plain is no decimal, and one that is plain goes on after 0.
pub not_plain : (k : ℕ) (t : List ℕ) → plain t ≡ false → None ≡ decimal_of k t
unfolding decimal_as
not_plain k t p = rw p

pub from_zero : (k : ℕ) (t : List ℕ) → plain t ≡ true → up_to k 0 t ≡ decimal_of k t
unfolding decimal_as
from_zero k t p = rw p

-- One digit more; another character; a number that is too large; the end.
pub digit-more : (k n i x : ℕ) (t : List ℕ) (r : Option ℕ) → i < length t → is_digit (get_or t i 0) ≡ true → x ≡ n * 10 + (get_or t i 0 - 48)
    → up_to k n (drop i t) ≡ r → up_to k x (drop (i + 1) t) ≡ r
digit-more k n i x t r h q e inv =
    ap (λ m. up_to k m (drop (i + 1) t)) e ∙ sym (more_at k n (get_or t i 0) (drop (i + 1) t) q) ∙ sym (ap (up_to k n) (drop_more t i 0 h)) ∙ inv

pub digit_stops : (k n i : ℕ) (t : List ℕ) (r : Option ℕ) → i < length t → is_digit (get_or t i 0) ≡ false → up_to k n (drop i t) ≡ r → None ≡ r
digit_stops k n i t r h q inv = sym (stops_at k n (get_or t i 0) (drop (i + 1) t) q) ∙ sym (ap (up_to k n) (drop_more t i 0 h)) ∙ inv

pub digit_large : (k n i x : ℕ) (t : List ℕ) (r : Option ℕ) → i < length t → is_digit (get_or t i 0) ≡ true → x ≡ n * 10 + (get_or t i 0 - 48) → k ≤ x
    → up_to k n (drop i t) ≡ r → None ≡ r
digit_large k n i x t r h q e l inv = sym (too_large k x (drop (i + 1) t) l) ∙ digit-more k n i x t r h q e inv

pub digits_done : (k n i : ℕ) (t : List ℕ) (r : Option ℕ) → length t ≤ i → n < k → up_to k n (drop i t) ≡ r → Some n ≡ r
digits_done k n i t r h l inv = sym (ends_at k n l) ∙ sym (ap (up_to k n) (drop_all i t h)) ∙ inv

-- A decimal that was read, or not, in another type.
shows : {N : Type 0} (f : ℕ → N) (b : Bool) (x : ℕ) (o : Option ℕ) → o ≡ cond b (Some x) None → option_map f o ≡ cond b (Some (f x)) None
shows f true x o e = ap (option_map f) e
shows f false x o e = ap (option_map f) e

pub in_type : {N : Type 0} (f : ℕ → N) (k m : ℕ) (t : List ℕ) (o : Option ℕ) → m ≡ k → o ≡ decimal_of (m + 1) t → option_map f o ≡ decimal_as f (k + 1) t
unfolding decimal_as
in_type f k m t o q e =
    shows f (plain t && (only_digits t && ltb (number_after 0 t) (m + 1))) (number_after 0 t) o e ∙ ap (λ j. decimal_as f (j + 1) t) q
