-- A list in chunks.
use Rattle.std.proofs.Common.{◌≡◌, ℕ, zero, suc, ◌+◌, ◌*◌, ◌<◌, List, [], get_or, take, drop, ap, ◌∙◌, arith}
use Rattle.std.specs.Simd.{first_chunks}
use Rattle.std.proofs.lemmas.List.{drop-drop, get_or-take, get_or-drop}

-- Chunk i, and its place j.
pub chunk : (n k : ℕ) (xs : List ℕ) (i : ℕ) → i < k → get_or (first_chunks n k xs) i [] ≡ take n (drop (n * i) xs)
chunk n zero xs i h = absurd (omega arith)
chunk n (suc k) xs zero h = let e : n * 0 ≡ 0 = omega arith in rw e
chunk n (suc k) xs (suc i) h =
    let e : n * suc i ≡ n + n * i = omega arith in
    chunk n k (drop n xs) i (omega arith) ∙ rw (drop-drop, e)

pub in_chunk : (n k : ℕ) (xs : List ℕ) (cs : List (List ℕ)) (i j : ℕ) → i < k → j < n → cs ≡ first_chunks n k xs
    → get_or (get_or cs i []) j 0 ≡ get_or xs (n * i + j) 0
in_chunk n k xs cs i j h l e =
    ap (λ (z : List (List ℕ)). get_or (get_or z i []) j 0) e ∙ ap (λ (z : List ℕ). get_or z j 0) (chunk n k xs i h)
    ∙ get_or-take n (drop (n * i) xs) j 0 l ∙ get_or-drop (n * i) xs j 0
