-- A digest, two characters at a time.
use Rattle.std.proofs.Common.{zero, suc, ◌≡◌, ℕ, ◌+◌, ◌*◌, ◌<◌, ◌≤◌, true, false, List, [], ◌∷◌, ◌++◌, length, get_or, take, drop, set, Some, None, Option, refl, ap, ◌∙◌, append_assoc, arith}
use Rattle.std.proofs.lemmas.List.{append-nil, drop-drop, drop_all, length-drop, take_all, take_more_set}
use Rattle.std.specs.Simd.{first_chunks}
use Rattle.numerals.specs.Digests.{digit_of, byte_of, joined, bytes_of, sized, digest_of}

-- Bytes that were read, with those of the rest, where it stands for some.
abbrev pub before : List ℕ → Option (List ℕ) → Option (List ℕ)
before xs None = None
before xs (Some ys) = Some (xs ++ ys)

before-none : (o : Option (List ℕ)) → before [] o ≡ o
before-none None = refl
before-none (Some ys) = refl

before_more : (xs : List ℕ) (x : ℕ) (o : Option (List ℕ)) → before xs (joined (Some x) o) ≡ before (xs ++ (x ∷ [])) o
before_more xs x None = refl
before_more xs x (Some ys) = rw append_assoc

-- The characters of the pair at a place.
pub pair-at : (k i : ℕ) (t : List ℕ) → i < k → get_or (first_chunks 2 k t) i [] ≡ take 2 (drop (2 * i) t)
pair-at zero i t h = absurd (omega arith)
pair-at (suc k) zero t h = refl
pair-at (suc k) (suc i) t h =
    let n : 2 + 2 * i ≡ 2 * suc i = omega arith in
    pair-at k i (drop 2 t) (omega arith) ∙ ap (take 2) (drop-drop (2 * i) 2 t ∙ ap (λ j. drop j t) n)

-- What is left, after its first two characters.
two-front : (u : List ℕ) → 1 < length u → u ≡ get_or (take 2 u) 0 0 ∷ get_or (take 2 u) 1 0 ∷ drop 2 u
two-front [] h = absurd (omega arith)
two-front (a ∷ []) h = absurd (omega arith)
two-front (a ∷ b ∷ u) h = refl

two-read : (t p : List ℕ) (i : ℕ) → 2 * i + 1 < length t → p ≡ take 2 (drop (2 * i) t)
    → bytes_of (drop (2 * i) t) ≡ joined (byte_of (digit_of (get_or p 0 0)) (digit_of (get_or p 1 0))) (bytes_of (drop (2 * (i + 1)) t))
unfolding bytes_of
two-read t p i h e =
    let n : 2 * i + 2 ≡ 2 * (i + 1) = omega arith in
    let l : 1 < length (drop (2 * i) t) = omega (arith, length-drop (2 * i) t) in
    rw (e, ← n, ← drop-drop 2 (2 * i) t) (ap bytes_of (two-front (drop (2 * i) t) l))

-- The text is not as long as a digest's; the start.
pub not_sized : (t : List ℕ) → sized t ≡ false → None ≡ digest_of t
unfolding digest_of
not_sized t q = rw q

pub read_none : (t : List ℕ) → sized t ≡ true → before [] (bytes_of t) ≡ digest_of t
unfolding digest_of
read_none t q = before-none (bytes_of t) ∙ rw q

-- One byte more; two characters that are no byte; the end.
pub read_more : (t p out : List ℕ) (i x : ℕ) (r : Option (List ℕ)) → 2 * i + 1 < length t → i < length out → p ≡ take 2 (drop (2 * i) t)
    → Some x ≡ byte_of (digit_of (get_or p 0 0)) (digit_of (get_or p 1 0))
    → before (take i out) (bytes_of (drop (2 * i) t)) ≡ r
    → before (take (i + 1) (set out i x)) (bytes_of (drop (2 * (i + 1)) t)) ≡ r
read_more t p out i x r h k q e inv =
    rw (take_more_set out i x k, ← before_more, e, ← two-read t p i h q) inv

pub read_stops : (t p out : List ℕ) (i : ℕ) (r : Option (List ℕ)) → 2 * i + 1 < length t → p ≡ take 2 (drop (2 * i) t)
    → None ≡ byte_of (digit_of (get_or p 0 0)) (digit_of (get_or p 1 0))
    → before (take i out) (bytes_of (drop (2 * i) t)) ≡ r
    → None ≡ r
read_stops t p out i r h q e inv = rw (two-read t p i h q, ← e) at inv

pub read_done : (t out : List ℕ) (i : ℕ) (r : Option (List ℕ)) → length t ≤ 2 * i → length out ≤ i
    → before (take i out) (bytes_of (drop (2 * i) t)) ≡ r → Some out ≡ r
unfolding bytes_of
read_done t out i r h k inv = rw (drop_all (2 * i) t h, take_all i out k, append-nil) at inv
