-- Adding a stream to bytes: part by part, and twice.
use Rattle.std.proofs.Common.{◌≡◌, ℕ, zero, suc, ◌+◌, ◌<◌, ◌≤◌, List, [], ◌∷◌, ◌++◌, length, get_or, take, drop, set, sym, refl, ap, ◌∙◌, ap₂, suc-le-suc, add-zero, add-suc, zero-lt-suc, suc-add, zero-add, arith}
use borrow.Rule.Slice.PartMut.{put_mid}
use lib.Bits.{bit_xor, xor_assoc, xor_self, xor_zero_r}
use Rattle.std.proofs.lemmas.List.{append_assoc, append-nil, length-take-le, length-take, take-append-drop, take_all, drop_all, take_at, drop_at, drop-drop, set_at, get_or_at, take_more, drop_more, drop-take, take-take}
use Rattle.gcm.specs.Gcm.{stream}

pub stream-length : (f : ℕ → ℕ) (p : ℕ) (xs : List ℕ) → length (stream f p xs) ≡ length xs
unfolding stream
stream-length f p [] = refl
stream-length f p (x ∷ xs) = ap suc (stream-length f (suc p) xs)

pub stream-append : (f : ℕ → ℕ) (p : ℕ) (xs ys : List ℕ) → stream f p (xs ++ ys) ≡ stream f p xs ++ stream f (p + length xs) ys
unfolding stream
stream-append f p [] ys = ap (λ (n : ℕ). stream f n ys) (sym (add-zero p))
stream-append f p (x ∷ xs) ys =
    ap (λ (l : List ℕ). bit_xor x (f p) ∷ l)
    (stream-append f (suc p) xs ys ∙ ap (λ (n : ℕ). stream f (suc p) xs ++ stream f n ys) (suc-add p (length xs) ∙ sym (add-suc p (length xs))))

-- a stream of its own that agrees with f from q on
pub stream_agrees : (f g : ℕ → ℕ) (p q : ℕ) (xs : List ℕ) → ((k : ℕ) → k < length xs → g (p + k) ≡ f (q + k)) → stream g p xs ≡ stream f q xs
unfolding stream
stream_agrees f g p q [] h = refl
stream_agrees f g p q (x ∷ xs) h =
    let here : g p ≡ f q = ap g (sym (add-zero p)) ∙ h zero (zero-lt-suc (length xs)) ∙ ap f (add-zero q) in
    ap₂ (λ (a : ℕ) (l : List ℕ). bit_xor x a ∷ l) here
    (stream_agrees f g (suc p) (suc q) xs
    (λ k lt. ap g (suc-add p k ∙ sym (add-suc p k)) ∙ h (suc k) (suc-le-suc lt) ∙ ap f (add-suc q k ∙ sym (suc-add q k))))

-- adding it twice takes it away again
pub stream_twice : (f : ℕ → ℕ) (p : ℕ) (xs : List ℕ) → stream f p (stream f p xs) ≡ xs
unfolding stream
stream_twice f p [] = refl
stream_twice f p (x ∷ xs) =
    ap₂ (λ (a : ℕ) (l : List ℕ). a ∷ l) (xor_assoc x (f p) (f p) ∙ ap (bit_xor x) (xor_self (f p)) ∙ xor_zero_r x) (stream_twice f (suc p) xs)

-- the stream added to the first q bytes
abbrev pub partly : (ℕ → ℕ) → ℕ → List ℕ → List ℕ
partly f q xs = stream f 0 (take q xs) ++ drop q xs

pub partly-all : (f : ℕ → ℕ) (q : ℕ) (xs : List ℕ) → length xs ≤ q → partly f q xs ≡ stream f 0 xs
partly-all f q xs h = ap₂ (λ (a b : List ℕ). stream f 0 a ++ b) (take_all q xs h) (drop_all q xs h) ∙ append-nil (stream f 0 xs)

front_length : (f : ℕ → ℕ) (q : ℕ) (xs : List ℕ) → q ≤ length xs → length (stream f 0 (take q xs)) ≡ q
front_length f q xs h = stream-length f 0 (take q xs) ∙ length-take-le q xs h

-- one byte more
pub partly-one : (f : ℕ → ℕ) (q : ℕ) (xs : List ℕ) → q < length xs
    → set (partly f q xs) q (bit_xor (get_or (partly f q xs) q 0) (f q)) ≡ partly f (q + 1) xs
unfolding stream
partly-one f q xs h =
    let a = stream f 0 (take q xs) in
    let x = get_or xs q 0 in
    let la : length a ≡ q = front_length f q xs (omega arith) in
    let tl : length (take q xs) ≡ q = length-take-le q xs (omega arith) in
    let d : drop q xs ≡ x ∷ drop (q + 1) xs = drop_more xs q 0 h in
    let t : take (q + 1) xs ≡ take q xs ++ x ∷ [] = take_more xs q 0 h in
    let g : get_or (partly f q xs) q 0 ≡ x = ap (λ (l : List ℕ). get_or (a ++ l) q 0) d ∙ get_or_at a x (drop (q + 1) xs) 0 q la in
    ap₂ (λ (l : List ℕ) (v : ℕ). set (a ++ l) q (bit_xor v (f q))) d g
    ∙ set_at a x (drop (q + 1) xs) (bit_xor x (f q)) q la
    ∙ sym (ap (λ (l : List ℕ). stream f 0 l ++ drop (q + 1) xs) t
    ∙ ap (λ (l : List ℕ). l ++ drop (q + 1) xs) (stream-append f 0 (take q xs) (x ∷ []) ∙ ap (λ (n : ℕ). a ++ bit_xor x (f n) ∷ []) (zero-add (length (take q xs)) ∙ tl))
    ∙ append_assoc a (bit_xor x (f q) ∷ []) (drop (q + 1) xs))

-- n bytes more
pub partly_more : (f g : ℕ → ℕ) (q n : ℕ) (xs : List ℕ) → q + n ≤ length xs → ((k : ℕ) → k < n → g k ≡ f (q + k))
    → put_mid q n (partly f q xs) (stream g 0 (take n (drop q (partly f q xs)))) ≡ partly f (q + n) xs
partly_more f g q n xs h agree =
    let a = stream f 0 (take q xs) in
    let d = drop q xs in
    let la : length a ≡ q = front_length f q xs (omega arith) in
    let tl : length (take q xs) ≡ q = length-take-le q xs (omega arith) in
    let front : take q (a ++ d) ≡ a = take_at a d q la in
    let back : drop q (a ++ d) ≡ d = drop_at a d q la in
    let ld : length (take n d) ≤ n = simp length-take (omega arith) in
    let mid : stream g 0 (take n d) ≡ stream f q (take n d) =
    stream_agrees f g 0 q (take n d) (λ k lt. ap g (zero-add k) ∙ agree k (omega arith)) in
    let cut : take (q + n) xs ≡ take q xs ++ take n d =
    sym (take-append-drop q (take (q + n) xs)) ∙ ap₂ (λ (x y : List ℕ). x ++ y) (take-take q (q + n) xs (omega arith)) (drop-take q n xs) in
    ap₂ (λ (x y : List ℕ). x ++ (stream g 0 (take n y) ++ drop n y)) front back
    ∙ ap₂ (λ (x y : List ℕ). a ++ (x ++ y)) mid (drop-drop n q xs)
    ∙ sym (append_assoc a (stream f q (take n d)) (drop (q + n) xs))
    ∙ sym (ap (λ (l : List ℕ). stream f 0 l ++ drop (q + n) xs) cut
    ∙ ap (λ (l : List ℕ). l ++ drop (q + n) xs) (stream-append f 0 (take q xs) (take n d) ∙ ap (λ (m : ℕ). a ++ stream f m (take n d)) (zero-add (length (take q xs)) ∙ tl)))
