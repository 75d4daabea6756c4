-- A rotation of a word by less than its width, as the standard writes it; a word of a block, from its chunk.
use Rattle.std.proofs.Common.{◌≡◌, ℕ, zero, suc, ◌+◌, ◌-◌, ◌*◌, ◌%◌, ◌<◌, w32, List, [], get_or, take, drop, ◌^◌, arith, ◌∙◌, ap, get_or-take}
use Rattle.std.specs.Int.{rotate_right}
use Rattle.std.specs.Simd.{first_chunks}
use Rattle.std.proofs.lemmas.List.{drop-drop, get_or-drop}
use Rattle.digest.specs.Sha256.{rotr, word}

pub rotated : (x n : ℕ) → 0 < n → n < 32 → rotate_right w32 x n ≡ rotr n x
rotated x n low high =
    let e : n % 32 ≡ n = omega arith in
    let f : (32 - n) % 32 ≡ 32 - n = omega arith in
    rw (e, f)

-- Chunk i of a list.
pub chunk : (n k : ℕ) (xs : List ℕ) (i : ℕ) (d : List ℕ) → i < k → get_or (first_chunks n k xs) i d ≡ take n (drop (n * i) xs)
chunk n zero xs i d h = absurd (omega arith)
chunk n (suc k) xs zero d h = let e : n * 0 ≡ 0 = omega arith in rw e
chunk n (suc k) xs (suc i) d h =
    let e : n * suc i ≡ n + n * i = omega arith in
    chunk n k (drop n xs) i d (omega arith) ∙ rw (drop-drop, e)

pub chunk_word : (b : List ℕ) (cs : List (List ℕ)) (n t v : ℕ) → t < n → cs ≡ first_chunks 4 n b
    → v ≡ (let c = get_or cs t [] in get_or c 0 0 * 2 ^ 24 + get_or c 1 0 * 2 ^ 16 + get_or c 2 0 * 2 ^ 8 + get_or c 3 0)
    → v ≡ word b t
chunk_word b cs n t v h e f =
    let g : get_or cs t [] ≡ take 4 (drop (4 * t) b) = rw e (chunk 4 n b t [] h) in
    let i : (k : ℕ) → k < 4 → get_or (get_or cs t []) k 0 ≡ get_or b (4 * t + k) 0 =
    λ k l. ap (λ x. get_or x k 0) g ∙ get_or-take 4 (drop (4 * t) b) k 0 l ∙ get_or-drop (4 * t) b k 0 in
    let j : 4 * t + 0 ≡ 4 * t = omega arith in
    f ∙ rw (i 0 (omega arith), i 1 (omega arith), i 2 (omega arith), i 3 (omega arith), j)
