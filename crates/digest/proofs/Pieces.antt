-- A digest under way: pieces join, and it comes to SHA-256 of the message.
use Rattle.std.proofs.Common.{◌≡◌, ℕ, zero, suc, ◌+◌, ◌-◌, ◌*◌, ◌/◌, ◌%◌, ◌^◌, ◌<◌, ◌≤◌, List, [], ◌++◌, length, take, drop, sym, refl, ap, ◌∙◌, append_assoc, append-nil, arith, length-append, length-drop, drop-drop}
use lib.Seq.{take-append-le, drop-append-le}
use Rattle.digest.specs.Running.{Running, start, absorb, finished, Joins, ComesToDigest}
use Rattle.digest.specs.Sha256.{block, hashed, zeros, padding, padded, output, sha256}

-- The blocks of a message stay what they are when bytes follow.
hashed-front : (s m d : List ℕ) (n : ℕ) → 64 * n ≤ length m → hashed s (m ++ d) n ≡ hashed s m n
unfolding hashed
hashed-front s m d zero h = refl
hashed-front s m d (suc n) h =
    let e : hashed s (m ++ d) n ≡ hashed s m n = hashed-front s m d n (omega arith) in
    let f : block (m ++ d) n ≡ block m n =
    ap (λ x. take 64 x) (drop-append-le (64 * n) m d (omega arith)) ∙ take-append-le 64 (drop (64 * n) m) d (simp length-drop (omega arith)) in
    rw (e, f)

-- The hash value after p + q blocks is that after q blocks more, from the one after p.
hashed-add : (s m : List ℕ) (p q : ℕ) → hashed s m (p + q) ≡ hashed (hashed s m p) (drop (64 * p) m) q
unfolding hashed
hashed-add s m p zero = let e : p + 0 ≡ p = omega arith in rw e
hashed-add s m p (suc q) =
    let e : p + suc q ≡ suc (p + q) = omega arith in
    let f : 64 * (p + q) ≡ 64 * p + 64 * q = omega arith in
    rw (e, hashed-add s m p q, drop-drop, f)

-- Two pieces, one after the other, over what waits: m1 is what waits with the first.
module _ (s m1 b : List ℕ) (p : ℕ) (within : 64 * p ≤ length m1) where
  rest : drop (64 * p) (m1 ++ b) ≡ drop (64 * p) m1 ++ b
  rest = drop-append-le (64 * p) m1 b within

  blocks_join : p ≡ length m1 / 64 → length (m1 ++ b) / 64 ≡ p + length (drop (64 * p) m1 ++ b) / 64
  blocks_join e =
      let l : length (drop (64 * p) m1 ++ b) ≡ length m1 - 64 * p + length b = length-append (drop (64 * p) m1) b ∙ ap (λ x. x + length b) (length-drop (64 * p) m1) in
      let k : length (m1 ++ b) ≡ length m1 + length b = length-append m1 b in
      omega arith

  values_join : (q : ℕ) → hashed (hashed s m1 p) (drop (64 * p) m1 ++ b) q ≡ hashed s (m1 ++ b) (p + q)
  values_join q = sym (hashed-add s (m1 ++ b) p q ∙ rw (hashed-front s m1 b p within, rest))

  waits_join : (q : ℕ) → drop (64 * q) (drop (64 * p) m1 ++ b) ≡ drop (64 * (p + q)) (m1 ++ b)
  waits_join q =
      let f : 64 * (p + q) ≡ 64 * p + 64 * q = omega arith in
      ap (λ x. drop (64 * q) x) (sym rest) ∙ drop-drop (64 * q) (64 * p) (m1 ++ b) ∙ sym (ap (λ x. drop x (m1 ++ b)) f)

counts_join : (c : ℕ) (a b : List ℕ) → ((c + length a) % 2 ^ 64 + length b) % 2 ^ 64 ≡ (c + length (a ++ b)) % 2 ^ 64
counts_join c a b = rw length-append (omega arith)

pub joins : Joins
unfolding absorb
joins r a b =
    let m = r.waiting ++ a in
    let p = length m / 64 in
    let w : 64 * p ≤ length m = omega arith in
    let q = length (drop (64 * p) m ++ b) / 64 in
    let all : r.waiting ++ (a ++ b) ≡ m ++ b = sym (append_assoc r.waiting a b) in
    rw (all, blocks_join r.value m b p w refl, values_join r.value m b p w q, waits_join r.value m b p w q, counts_join r.count a b)

-- The padding depends on the length modulo 2 ^ 64 alone.
padding_wraps : (n : ℕ) → padding (n % 2 ^ 64) ≡ padding n
unfolding padding zeros
padding_wraps n =
    let z : n % 2 ^ 64 % 64 ≡ n % 64 = omega arith in
    let b : n % 2 ^ 64 * 8 % 2 ^ 64 ≡ n * 8 % 2 ^ 64 = omega arith in
    rw (z, b)

counted : (m : List ℕ) → (absorb start m).count ≡ length m % 2 ^ 64
unfolding absorb
counted m = omega arith

padded_in : (m : List ℕ) → output (absorb start (m ++ padding (length m))).value ≡ sha256 m
unfolding absorb sha256 padded
padded_in m = refl

pub comes_to_digest : ComesToDigest
unfolding finished
comes_to_digest m =
    ap (λ p. output (absorb (absorb start m) p).value) (ap padding (counted m) ∙ padding_wraps (length m))
    ∙ ap (λ (x : Running). output x.value) (joins start m (padding (length m)))
    ∙ padded_in m

-- Nothing more changes nothing, where less than a block waits and the count is below 2 ^ 64.
pub absorb-none : (r : Running) → length r.waiting < 64 → r.count < 2 ^ 64 → absorb r [] ≡ r
unfolding absorb hashed
absorb-none r w c =
    let n : length r.waiting / 64 ≡ 0 = omega arith in
    let k : (r.count + 0) % 2 ^ 64 ≡ r.count = omega arith in
    rw (append-nil, n, k)
