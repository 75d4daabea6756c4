-- The steps of the loops: one round more, one word more.
use Rattle.std.proofs.Common.{◌≡◌, ℕ, zero, suc, ◌+◌, ◌-◌, ◌*◌, ◌^◌, ◌<◌, ◌≤◌, List, [], length, get_or, take, drop, set, refl, sym, ap, ◌∙◌, arith}
use lib.Bits.{bit_xor, bit_or, or_shifted}
use Rattle.std.proofs.lemmas.List.{take_more_set, length-take-le, get_or-take, get_or-drop, length-drop}
use Rattle.aes.proofs.Chunks.{in_chunk}
use Rattle.aes.specs.declared.state.State.{State}
use Rattle.aes.specs.Words.{temp, grown, expand, key_words, word}
use Rattle.aes.specs.Cipher.{add_round_key, sub_bytes, shift_rows, mix_columns, rounds, one_round}
use Rattle.std.specs.Simd.{first_chunks}
use Rattle.std.specs.List.{fold}
use Rattle.std.proofs.lemmas.List.Sums.{fold_more}

-- a round under the round key r, taken out of the expanded key
keyed : (ws : List ℕ) (cs : List (List ℕ)) (k r : ℕ) (s : State) → r < k → cs ≡ first_chunks 4 k ws → add_round_key (get_or cs r []) 0 s ≡ add_round_key ws r s
unfolding add_round_key
keyed ws cs k r s h e =
    let i : (j : ℕ) → j < 4 → get_or (get_or cs r []) j 0 ≡ get_or ws (4 * r + j) 0 = λ j l. in_chunk 4 k ws cs r j h l e in
    let o : 4 * r + 0 ≡ 4 * r = omega arith in
    rw (i 0 (omega arith), i 1 (omega arith), i 2 (omega arith), i 3 (omega arith), o)

abbrev pub under_key : State → List ℕ → State
under_key s key = add_round_key key 0 (mix_columns (shift_rows (sub_bytes s)))

-- rounds 1 to n, by their round keys
pub folded : (ws : List ℕ) (cs : List (List ℕ)) (k n : ℕ) (s : State) → n < k → length cs ≡ k → cs ≡ first_chunks 4 k ws
    → fold under_key s (take n (drop 1 cs)) ≡ rounds ws n s
unfolding rounds one_round
folded ws cs k zero s h l e = refl
folded ws cs k (suc n) s h l e =
    let up : suc n ≡ n + 1 = omega arith in
    let t : State = fold under_key s (take n (drop 1 cs)) in
    let key : get_or (drop 1 cs) n [] ≡ get_or cs (1 + n) [] = get_or-drop 1 cs n [] in
    let o : 1 + n ≡ suc n = omega arith in
    ap (λ m. fold under_key s (take m (drop 1 cs))) up
    ∙ fold_more under_key s (drop 1 cs) n [] (simp length-drop (omega arith))
    ∙ ap (under_key t) (key ∙ ap (λ m. get_or cs m []) o)
    ∙ keyed ws cs k (suc n) (mix_columns (shift_rows (sub_bytes t))) h e
    ∙ ap (one_round ws (suc n)) (folded ws cs k n s (omega arith) l e)

-- the word after the first j of ws is the one that expansion adds
pub expand-more : (ws ks : List ℕ) (j : ℕ) → 8 ≤ j → j < length ws → take j ws ≡ expand (j - 8) ks
    → take (j + 1) (set ws j (bit_xor (get_or ws (j - 8) 0) (temp j (get_or ws (j - 1) 0)))) ≡ expand (j + 1 - 8) ks
unfolding expand grown
expand-more ws ks j low high so_far =
    let up : j + 1 - 8 ≡ suc (j - 8) = omega arith in
    let long : length (expand (j - 8) ks) ≡ j = ap length (sym so_far) ∙ length-take-le j ws (omega arith) in
    let x : get_or (expand (j - 8) ks) (j - 8) 0 ≡ get_or ws (j - 8) 0 = ap (λ (l : List ℕ). get_or l (j - 8) 0) (sym so_far) ∙ get_or-take j ws (j - 8) 0 (omega arith) in
    let y : get_or (expand (j - 8) ks) (j - 1) 0 ≡ get_or ws (j - 1) 0 = ap (λ (l : List ℕ). get_or l (j - 1) 0) (sym so_far) ∙ get_or-take j ws (j - 1) 0 (omega arith) in
    let grows : expand (j + 1 - 8) ks ≡ grown (expand (j - 8) ks) = ap (λ (n : ℕ). expand n ks) up in
    take_more_set ws j _ high ∙ cc

pub join_words : (a b c d : ℕ) → a < 2 ^ 32 → b < 2 ^ 32 → c < 2 ^ 32 → d < 2 ^ 32
    → bit_or (bit_or (bit_or (a * 2 ^ 96) (b * 2 ^ 64)) (c * 2 ^ 32)) d ≡ a * 2 ^ 96 + b * 2 ^ 64 + c * 2 ^ 32 + d
join_words a b c d ha hb hc hd =
    let e : a * 2 ^ 96 + b * 2 ^ 64 ≡ (a * 2 ^ 32 + b) * 2 ^ 64 = omega arith in
    let f : (a * 2 ^ 32 + b) * 2 ^ 64 + c * 2 ^ 32 ≡ ((a * 2 ^ 32 + b) * 2 ^ 32 + c) * 2 ^ 32 = omega arith in
    ap (λ (n : ℕ). bit_or (bit_or n (c * 2 ^ 32)) d) (or_shifted a 96 (b * 2 ^ 64) (omega arith) ∙ e)
    ∙ ap (λ (n : ℕ). bit_or n d) (or_shifted (a * 2 ^ 32 + b) 64 (c * 2 ^ 32) (omega arith) ∙ f)
    ∙ or_shifted ((a * 2 ^ 32 + b) * 2 ^ 32 + c) 32 d hd ∙ omega arith

pub key_more : (ws key : List ℕ) (cs : List (List ℕ)) (k i v : ℕ) → i < length ws → i < k → cs ≡ first_chunks 4 k key → take i ws ≡ key_words i key
    → v ≡ (let c = get_or cs i [] in get_or c 0 0 * 16777216 + get_or c 1 0 * 65536 + get_or c 2 0 * 256 + get_or c 3 0)
    → take (i + 1) (set ws i v) ≡ key_words (i + 1) key
unfolding key_words word
key_more ws key cs k i v h m c so_far e =
    let at : (j : ℕ) → j < 4 → get_or (get_or cs i []) j 0 ≡ get_or key (4 * i + j) 0 = λ j l. in_chunk 4 k key cs i j m l c in
    let first = at 0 (omega arith) in
    let second = at 1 (omega arith) in
    let third = at 2 (omega arith) in
    let fourth = at 3 (omega arith) in
    let o : 4 * i + 0 ≡ 4 * i = omega arith in
    let up : i + 1 ≡ suc i = omega arith in
    let grows : key_words (i + 1) key ≡ key_words (suc i) key = ap (λ (n : ℕ). key_words n key) up in
    take_more_set ws i v h ∙ cc
