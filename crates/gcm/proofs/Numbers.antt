-- Blocks read from bytes, and the steps of the hash.
use Rattle.std.proofs.Common.{◌≡◌, ℕ, zero, suc, ◌+◌, ◌-◌, ◌*◌, ◌/◌, ◌%◌, ◌<◌, ◌≤◌, List, [], ◌++◌, length, get_or, take, drop, replicate, sym, refl, ap, ◌∙◌, ap₂, ⊎_elim, arith}
use lib.Bits.{bit_xor}
use Rattle.std.proofs.lemmas.List.{get_or-drop, get_or_past, get_or_append_left, get_or-append_right, drop-replicate}
use Rattle.std.proofs.lemmas.Bool.{cases_lt}
use Rattle.ghash.specs.Field.{product}
use Rattle.aes.proofs.Chunks.{in_chunk}
use Rattle.std.specs.Simd.{first_chunks}
use Rattle.gcm.specs.Blocks.{number, block_at, block_bytes}
use Rattle.gcm.specs.Gcm.{absorb, counter, key_byte, stream}
use Rattle.gcm.proofs.Stream.{partly, partly_more}
use borrow.Rule.Slice.PartMut.{put_mid}

pub number_same : (xs ys : List ℕ) → ((k : ℕ) → k < 16 → get_or xs k 0 ≡ get_or ys k 0) → number xs ≡ number ys
unfolding number
number_same xs ys agree =
    cc (agree 0 (omega arith), agree 1 (omega arith), agree 2 (omega arith), agree 3 (omega arith), agree 4 (omega arith), agree 5 (omega arith), agree 6 (omega arith), agree 7 (omega arith), agree 8 (omega arith), agree 9 (omega arith), agree 10 (omega arith), agree 11 (omega arith), agree 12 (omega arith), agree 13 (omega arith), agree 14 (omega arith), agree 15 (omega arith))

zeros : (n j : ℕ) → ◌≡◌ {A = ℕ} (get_or (replicate n 0) j 0) 0
zeros zero j = refl
zeros (suc n) zero = refl
zeros (suc n) (suc j) = zeros n j

-- at most 16 bytes, written over the front of 16 zeros
pub padding : (xs : List ℕ) (k : ℕ) → k ≡ length xs → k ≤ 16 → number (put_mid 0 k (replicate 16 0) xs) ≡ number xs
padding xs k e h =
    let f : put_mid 0 k (replicate 16 0) xs ≡ xs ++ replicate (16 - length xs) 0 = rw e (ap (λ r. xs ++ r) (drop-replicate (length xs) 16 0)) in
    ap number f
    ∙ number_same (xs ++ replicate (16 - length xs) 0) xs (λ j lt.
    ⊎_elim (λ low. get_or_append_left xs (replicate (16 - length xs) 0) 0 j low)
    (λ past. get_or-append_right xs (replicate (16 - length xs) 0) (length xs) j 0 refl past ∙ zeros (16 - length xs) (j - length xs) ∙ sym (get_or_past xs j 0 past))
    (cases_lt j (length xs)))

-- a whole block, read from its chunk
pub number-chunk : (xs : List ℕ) (cs : List (List ℕ)) (n i : ℕ) → i < n → cs ≡ first_chunks 16 n xs → number (get_or cs i []) ≡ block_at xs i
unfolding block_at
number-chunk xs cs n i h e =
    number_same (get_or cs i []) (drop (16 * i) xs) (λ k lt. in_chunk 16 n xs cs i k h lt e ∙ sym (get_or-drop (16 * i) xs k 0))

-- one block more
pub absorb-more : (h y z i : ℕ) (xs : List ℕ) → z ≡ absorb h xs i y → product (bit_xor z (block_at xs i)) h ≡ absorb h xs (i + 1) y
unfolding absorb
absorb-more h y z i xs e =
    let up : i + 1 ≡ suc i = omega arith in
    ap (λ (w : ℕ). product (bit_xor w (block_at xs i)) h) e ∙ ap (λ (n : ℕ). absorb h xs n y) (sym up)

-- byte k of block i of the key stream
pub key_agrees : (E : ℕ → ℕ) (iv : List ℕ) (n i k : ℕ) → k < 16 → get_or (block_bytes (E (counter iv (i + n)))) k 0 ≡ key_byte E iv n (16 * i + k)
unfolding key_byte
key_agrees E iv n i k lt =
    let q : (16 * i + k) / 16 ≡ i = omega arith in
    let r : (16 * i + k) % 16 ≡ k = omega arith in
    sym (ap₂ (λ (a b : ℕ). get_or (block_bytes (E (counter iv (a + n)))) b 0) q r)

-- a part of at most a block with the stream added, back in its place
pub part_done : (E : ℕ → ℕ) (iv : List ℕ) (first i n m : ℕ) (body orig part ks : List ℕ)
    → m ≡ n → n ≤ 16 → 16 * i + n ≤ length orig → body ≡ partly (key_byte E iv first) (16 * i) orig
    → ks ≡ block_bytes (E (counter iv (i + first))) → part ≡ stream (λ k. get_or ks k 0) 0 (take m (drop (16 * i) body))
    → put_mid (16 * i) m body part ≡ partly (key_byte E iv first) (16 * i + n) orig
part_done E iv first i n m body orig part ks e small fits so_far key added =
    let f = key_byte E iv first in
    let agree : (k : ℕ) → k < n → get_or ks k 0 ≡ f (16 * i + k) =
    λ k lt. ap (λ (l : List ℕ). get_or l k 0) key ∙ key_agrees E iv first i k (omega arith) in
    ap (put_mid (16 * i) m body) added
    ∙ ap₂ (λ (j : ℕ) (b : List ℕ). put_mid (16 * i) j b (stream (λ k. get_or ks k 0) 0 (take j (drop (16 * i) b)))) e so_far
    ∙ partly_more f (λ k. get_or ks k 0) (16 * i) n orig fits agree
