-- The steps of the loops over the message schedule, the rounds and the words of a hash value.
use Rattle.std.proofs.Common.{◌≡◌, ℕ, zero, suc, ◌+◌, ◌-◌, ◌*◌, ◌<◌, ◌≤◌, List, [], ◌∷◌, ◌++◌, length, get_or, take, set, sym, refl, ap, ◌∙◌, add-one, arith, length-set, take_all, get_or-take, rules, le-ltb, lt-ltb}
use borrow.Rule.Slice.PartMut.{put_mid}
use Rattle.std.proofs.lemmas.List.{take_more_set, length_push, get_or_append_left}
use Rattle.std.proofs.lemmas.Slice.{take-put_mid, overwrites}
use Rattle.digest.specs.Sha256.{constants, word, late, scheduled, schedule, round, rounds, sums, compress, be4, output}

pub scheduled_early : (b w : List ℕ) (t : ℕ) → t < 16 → scheduled b w t ≡ word b t
unfolding scheduled
scheduled_early b w t h = rw lt-ltb

scheduled-late : (b w : List ℕ) (t : ℕ) → 16 ≤ t → scheduled b (take t w) t ≡ late w t
unfolding scheduled
scheduled-late b w t h =
    let a : t - 2 < t = omega arith in
    let b : t - 7 < t = omega arith in
    let c : t - 15 < t = omega arith in
    let d : t - 16 < t = omega arith in
    simp (le-ltb, get_or-take)

pub schedule-more : (b w : List ℕ) (t x : ℕ) → t < length w → take t w ≡ schedule b t → x ≡ scheduled b (take t w) t
    → take (t + 1) (set w t x) ≡ schedule b (t + 1)
unfolding schedule
schedule-more b w t x h e n = take_more_set w t x h ∙ rw (add-one, n, e)

-- A schedule's words stay what they are when words follow.
schedule-length : (b : List ℕ) (n : ℕ) → length (schedule b n) ≡ n
unfolding schedule
schedule-length b zero = refl
schedule-length b (suc n) = length_push (schedule b n) (scheduled b (schedule b n) n) ∙ rw (schedule-length b n, add-one)

schedule-front : (b : List ℕ) (j n m : ℕ) → j < n → get_or (schedule b (n + m)) j 0 ≡ get_or (schedule b n) j 0
unfolding schedule
schedule-front b j n zero h = let e : n + 0 ≡ n = omega arith in rw e
schedule-front b j n (suc m) h =
    let e : n + suc m ≡ suc (n + m) = omega arith in
    let l : j < length (schedule b (n + m)) = rw schedule-length (omega arith) in
    rw e (get_or_append_left (schedule b (n + m)) (scheduled b (schedule b (n + m)) (n + m) ∷ []) 0 j l ∙ schedule-front b j n m h)

pub rounds-more : (w s v r : List ℕ) (t n : ℕ) → n ≡ t + 1 → v ≡ rounds w s t → r ≡ round (get_or constants t 0) (get_or w t 0) v → r ≡ rounds w s n
unfolding rounds
rounds-more w s v r t n e f g = g ∙ rw (e, add-one, f)

-- After t rounds from s, with the schedule of the block b worked out 16 words ahead.
abbrev pub Ahead : List ℕ → List ℕ → ℕ → List ℕ → List ℕ → Type 0
Ahead b s t w v = (take (t + 16) w ≡ schedule b (t + 16)) × (length w ≡ 64) × (v ≡ rounds (schedule b 64) s t)

pub ahead_more : (b s w x v r : List ℕ) (t u n : ℕ) → t < 48 → u ≡ t + 1 → n ≡ t + 16 → Ahead b s t w v
    → r ≡ round (get_or constants t 0) (get_or w t 0) v → x ≡ set w n (late w n) → Ahead b s u x r
ahead_more b s w x v r t u n h e f a g k =
    let l : length w ≡ 64 = a.1 in
    let m : t + 16 + (48 - t) ≡ 64 = omega arith in
    let i : t < t + 16 = omega arith in
    let word-t : get_or w t 0 ≡ get_or (schedule b 64) t 0 =
    sym (get_or-take (t + 16) w t 0 i) ∙ ap (λ z. get_or z t 0) a.0 ∙ sym (schedule-front b t (t + 16) (48 - t) i) ∙ ap (λ z. get_or (schedule b z) t 0) m in
    let o : u + 16 ≡ t + 16 + 1 = omega arith in (
      rw (o, k, f) (schedule-more b w (t + 16) (late w (t + 16)) (omega arith) a.0 (sym (scheduled-late b w (t + 16) (omega arith)))),
      rw (k, length-set) l,
      rounds-more (schedule b 64) s v r t u e a.2 (g ∙ ap (λ z. round (get_or constants t 0) z v) word-t),
    )

pub ahead_all : (b s w v : List ℕ) (t : ℕ) → t ≡ 48 → Ahead b s t w v → w ≡ schedule b 64
ahead_all b s w v t e a = sym (take_all 64 w (omega arith)) ∙ (rw e at a.0)

pub compress-all : (b s w v : List ℕ) (t : ℕ) → w ≡ schedule b 64 → t ≡ 64 → v ≡ rounds w s t → sums s v ≡ compress s b
unfolding compress
compress-all b s w v t g e i = rw (i, e, g)

-- One word more of a hash value as bytes.
pub output-more : (s : List ℕ) (i : ℕ) → i < length s → output (take (suc i) s) ≡ output (take i s) ++ be4 (get_or s i 0)
unfolding output
output-more [] i h = absurd (omega arith)
output-more (x ∷ s) zero h = refl
output-more (x ∷ s) (suc i) h = ap {B = List ℕ} (λ r. be4 x ++ r) (output-more s i (omega arith))

-- ws holds the bytes of word i, written into the buffer bs after those of the words before it.
pub output_put : (s bs ws : List ℕ) (i k : ℕ) → i < length s → k ≡ 4 → length bs ≡ 32 → take (4 * i) bs ≡ output (take i s) → ws ≡ be4 (get_or s i 0)
    → length s ≡ 8
    → (take (4 * (i + 1)) (put_mid (4 * i) k bs ws) ≡ output (take (i + 1) s)) × (length (put_mid (4 * i) k bs ws) ≡ 32)
output_put s bs ws i k h f l e w n =
    let four : length ws ≡ 4 = rw w in
    let t : 4 * (i + 1) ≡ 4 * i + length ws = omega arith in (
      rw add-one (take-put_mid (4 * i) k bs ws (4 * suc i) (omega arith) (omega arith) ∙ rw (e, w) (sym (output-more s i h))),
      search (rules, overwrites),
    )

pub output-all : (s bs : List ℕ) (i : ℕ) → i ≡ 8 → length s ≡ 8 → length bs ≡ 32 → take (4 * i) bs ≡ output (take i s) → bs ≡ output s
output-all s bs i e l n h =
    sym (take_all (4 * i) bs (omega arith)) ∙ h ∙ ap output (take_all i s (omega arith))
