-- A block of the key stream added by halves.
use Rattle.std.proofs.Common.{◌≡◌, ℕ, ◌+◌, ◌-◌, ◌/◌, ◌%◌, ◌^◌, ◌<◌, List, [], ◌∷◌, ◌++◌, length, get_or, take, drop, sym, ap, ◌∙◌, append-nil, zero-add, arith, length-drop, take-append-drop, length-take, take_all}
use borrow.Rule.Slice.PartMut.{put_mid}
use Rattle.std.proofs.lemmas.List.{take_at, drop_at, drop_all, get_or_append_left, get_or-append_right}
use Rattle.gcm.specs.Blocks.{block_bytes}
use Rattle.gcm.specs.Gcm.{stream}
use Rattle.gcm.proofs.Stream.{stream-length, stream-append, stream_agrees}

-- The eight bytes of a number below 2 ^ 64.
abbrev pub be8 : ℕ → List ℕ
be8 x =
    x / 2 ^ 56 % 256 ∷ x / 2 ^ 48 % 256 ∷ x / 2 ^ 40 % 256 ∷ x / 2 ^ 32 % 256 ∷
    x / 2 ^ 24 % 256 ∷ x / 2 ^ 16 % 256 ∷ x / 2 ^ 8 % 256 ∷ x % 256 ∷ []

pub halves : (b : ℕ) → be8 (b / 2 ^ 64) ++ be8 (b % 2 ^ 64) ≡ block_bytes b
unfolding block_bytes
halves b =
    let h0 : b / 2 ^ 64 / 2 ^ 56 % 256 ≡ b / 2 ^ 120 % 256 = omega arith in
    let h1 : b / 2 ^ 64 / 2 ^ 48 % 256 ≡ b / 2 ^ 112 % 256 = omega arith in
    let h2 : b / 2 ^ 64 / 2 ^ 40 % 256 ≡ b / 2 ^ 104 % 256 = omega arith in
    let h3 : b / 2 ^ 64 / 2 ^ 32 % 256 ≡ b / 2 ^ 96 % 256 = omega arith in
    let h4 : b / 2 ^ 64 / 2 ^ 24 % 256 ≡ b / 2 ^ 88 % 256 = omega arith in
    let h5 : b / 2 ^ 64 / 2 ^ 16 % 256 ≡ b / 2 ^ 80 % 256 = omega arith in
    let h6 : b / 2 ^ 64 / 2 ^ 8 % 256 ≡ b / 2 ^ 72 % 256 = omega arith in
    let l0 : b % 2 ^ 64 / 2 ^ 56 % 256 ≡ b / 2 ^ 56 % 256 = omega arith in
    let l1 : b % 2 ^ 64 / 2 ^ 48 % 256 ≡ b / 2 ^ 48 % 256 = omega arith in
    let l2 : b % 2 ^ 64 / 2 ^ 40 % 256 ≡ b / 2 ^ 40 % 256 = omega arith in
    let l3 : b % 2 ^ 64 / 2 ^ 32 % 256 ≡ b / 2 ^ 32 % 256 = omega arith in
    let l4 : b % 2 ^ 64 / 2 ^ 24 % 256 ≡ b / 2 ^ 24 % 256 = omega arith in
    let l5 : b % 2 ^ 64 / 2 ^ 16 % 256 ≡ b / 2 ^ 16 % 256 = omega arith in
    let l6 : b % 2 ^ 64 / 2 ^ 8 % 256 ≡ b / 2 ^ 8 % 256 = omega arith in
    let l7 : b % 2 ^ 64 % 256 ≡ b % 256 = omega arith in
    rw (h0, h1, h2, h3, h4, h5, h6, l0, l1, l2, l3, l4, l5, l6, l7)

pub both_halves : (p x y high low bytes : List ℕ) → length p ≡ 16 → length high ≡ 8 → length low ≡ 8 → high ++ low ≡ bytes
    → x ≡ stream (λ k. get_or high k 0) 0 (take 8 p)
    → y ≡ stream (λ k. get_or low k 0) 0 (take 8 (drop 8 (x ++ drop 8 p)))
    → put_mid 8 8 (x ++ drop 8 p) y ≡ stream (λ k. get_or bytes k 0) 0 p
both_halves p x y high low bytes lp lh ll e ex ey =
    let f : ℕ → ℕ = λ k. get_or bytes k 0 in
    let lx : length x ≡ 8 = ap length ex ∙ stream-length _ 0 (take 8 p) ∙ rw length-take (omega arith) in
    let back : drop 8 (x ++ drop 8 p) ≡ drop 8 p = drop_at x (drop 8 p) 8 lx in
    let ld : length (drop 8 p) ≡ 8 = rw length-drop (omega arith) in
    let lt : length (take 8 p) ≡ 8 = rw length-take (omega arith) in
    let first : x ≡ stream f 0 (take 8 p) =
    ex ∙ stream_agrees f (λ k. get_or high k 0) 0 0 (take 8 p)
    (λ k h.
    let i : 0 + k < length high = omega arith in
    sym (ap (λ z. get_or z (0 + k) 0) (sym e) ∙ get_or_append_left high low 0 (0 + k) i)) in
    let second : y ≡ stream f 8 (drop 8 p) =
    ey ∙ ap (λ z. stream (λ k. get_or low k 0) 0 (take 8 z)) back ∙ ap (λ z. stream (λ k. get_or low k 0) 0 z) (take_all 8 (drop 8 p) (omega arith))
    ∙ stream_agrees f (λ k. get_or low k 0) 0 8 (drop 8 p) (λ k h.
    let i : 8 + k - 8 ≡ 0 + k = omega arith in
    sym (ap (λ z. get_or z (8 + k) 0) (sym e) ∙ get_or-append_right high low 8 (8 + k) 0 lh (omega arith) ∙ ap (λ z. get_or low z 0) i)) in
    let whole : stream f 0 p ≡ stream f 0 (take 8 p) ++ stream f 8 (drop 8 p) =
    ap (λ z. stream f 0 z) (sym (take-append-drop 8 p)) ∙ stream-append f 0 (take 8 p) (drop 8 p)
    ∙ ap (λ z. stream f 0 (take 8 p) ++ stream f z (drop 8 p)) (zero-add (length (take 8 p)) ∙ lt) in
    let end : drop 8 (drop 8 p) ≡ [] = drop_all 8 (drop 8 p) (omega arith) in
    rw (take_at x (drop 8 p) 8 lx, back, end, append-nil, first, second) (sym whole)
