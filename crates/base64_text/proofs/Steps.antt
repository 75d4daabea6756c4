-- The steps of the loops.
use Rattle.std.proofs.Common.{◌≡◌, ℕ, ◌+◌, ◌-◌, zero, suc, ◌*◌, ◌/◌, ◌%◌, ◌<◌, ◌≤◌, min, Bool, true, false, eqb, List, [], ◌∷◌, ◌++◌, length, get_or, take, drop, is_some, Some, None, Option, sym, refl, ap, ◌∙◌, append_assoc, arith, leb-true}
use borrow.Author.Tests.{clash}
use borrow.Rule.Slice.PartMut.{put_mid}
use Rattle.octets.specs.Fronts.{at_front, fits, placed}
use Rattle.std.specs.Simd.{first_chunks}
use Rattle.std.proofs.lemmas.Bool.Decides.{nat_tests}
use Rattle.std.proofs.Math.ListN.{get_or-append}
use Rattle.std.proofs.Math.Seq.{get_or-append_seam}
use Rattle.std.proofs.lemmas.List.{drop-drop, length-append, length-drop, length-take, nil_from_length, take-append-drop}
use Rattle.std.proofs.lemmas.Slice.{take-put_mid, drop-put_mid}
use Rattle.base64_text.specs.Base64.{encode, group, before, decode}
use Rattle.base64_text.specs.Groups.{counted, quad}

-- A number more, where there is one.
abbrev pub plus : ℕ → Option ℕ → Option ℕ
plus n None = None
plus n (Some m) = Some (n + m)

-- The bytes that are there, or none.
abbrev pub found : Option (List ℕ) → List ℕ
found None = []
found (Some xs) = xs

-- Elements laid over those of a list from a place on.
abbrev pub laid : ℕ → List ℕ → List ℕ → List ℕ
laid at xs out = take at out ++ (xs ++ drop (at + length xs) out)

-- What is left to write has room from a place on, and makes the buffer what it is to be.
abbrev pub Left : ℕ → List ℕ → List ℕ → List ℕ → Type 0
Left at xs out whole = (at + length xs ≤ length out) × (laid at xs out ≡ whole)

-- A part written, and the rest left.
left-more : (at k n : ℕ) (out part q ys whole : List ℕ) → length q ≡ n → part ≡ q → k ≡ n → Left at (q ++ ys) out whole
    → Left (at + n) ys (put_mid at k out part) whole
left-more at k n out part q ys whole e f g h =
    let s : length (q ++ ys) ≡ n + length ys = length-append q ys ∙ ap (λ m. m + length ys) e in
    let r : at + length (q ++ ys) ≤ length out = h.0 in
    let a : at ≤ length out = omega arith in
    let w : at + n ≡ at + length q = omega arith in
    let m : at + n ≤ at + n + length ys = omega arith in
    let t = take-put_mid at n out q (at + n) w a in
    let d = drop-put_mid at n out q (at + n + length ys) m a e in
    let z : at + length (q ++ ys) ≡ at + n + length ys = omega arith in
    let i : laid at (q ++ ys) out ≡ whole = h.1 in
    let j : take at out ++ ((q ++ ys) ++ drop (at + n + length ys) out) ≡ whole = rw z at i in (
      rw (f, g) (simp (length-append, length-take, length-drop) (omega arith)),
      rw (f, g, t, d, append_assoc, ← append_assoc q) j,
    )

-- All is left to write at the start, and nothing at the end.
pub left-all : (xs out : List ℕ) → length xs ≤ length out → Left 0 xs out (at_front xs out)
left-all xs out h =
    let e : 0 + length xs ≡ length xs = omega arith in
    (omega arith, ap (λ n. xs ++ drop n out) e)

pub left-none : (at : ℕ) (out whole : List ℕ) → Left at [] out whole → out ≡ whole
left-none at out whole h =
    let e : at + 0 ≡ at = omega arith in
    sym (take-append-drop at out) ∙ ap (λ n. take at out ++ drop n out) (sym e) ∙ h.1

-- The letters of bytes.
pub length-encode : (xs : List ℕ) → length (encode xs) ≡ (length xs + 2) / 3 * 4
unfolding encode
length-encode [] = refl
length-encode (a ∷ []) = refl
length-encode (a ∷ b ∷ []) = refl
length-encode (a ∷ b ∷ c ∷ xs) = let e = length-encode xs in omega arith

length-quad : (xs : List ℕ) → length (quad xs) ≡ 4
length-quad [] = refl
length-quad (a ∷ []) = refl
length-quad (a ∷ b ∷ []) = refl
length-quad (a ∷ b ∷ c ∷ xs) = refl

encode-more : (xs : List ℕ) → 0 < length xs → encode xs ≡ quad xs ++ encode (drop 3 xs)
unfolding encode
encode-more [] h = absurd (omega arith)
encode-more (a ∷ []) h = refl
encode-more (a ∷ b ∷ []) h = refl
encode-more (a ∷ b ∷ c ∷ xs) h = refl

pub text_room : (rest out whole : List ℕ) (at : ℕ) → 0 < length rest → Left at (encode rest) out whole → at + 4 ≤ length out
text_room rest out whole at h l =
    let e = length-encode rest in
    let r : at + length (encode rest) ≤ length out = l.0 in
    omega arith

-- The first three bytes, or fewer, and those after them.
quad-front : (part more : List ℕ) → length part ≡ min 3 (length (part ++ more)) → quad (part ++ more) ≡ quad part
quad-front [] [] n = refl
quad-front [] (x ∷ more) n = absurd (omega arith)
quad-front (a ∷ []) [] n = refl
quad-front (a ∷ []) (x ∷ more) n = absurd (omega arith)
quad-front (a ∷ b ∷ []) [] n = refl
quad-front (a ∷ b ∷ []) (x ∷ more) n = absurd (omega arith)
quad-front (a ∷ b ∷ c ∷ part) more n = refl

past-front : (part more : List ℕ) → length part ≡ min 3 (length (part ++ more)) → drop 3 (part ++ more) ≡ more
past-front [] [] n = refl
past-front [] (x ∷ more) n = absurd (omega arith)
past-front (a ∷ []) [] n = refl
past-front (a ∷ []) (x ∷ more) n = absurd (omega arith)
past-front (a ∷ b ∷ []) [] n = refl
past-front (a ∷ b ∷ []) (x ∷ more) n = absurd (omega arith)
past-front (a ∷ b ∷ c ∷ []) more n = refl
past-front (a ∷ b ∷ c ∷ d ∷ part) more n = let e = length-append part more in absurd (omega arith)

pub text-more : (rest part more four out whole : List ℕ) (at : ℕ) → rest ≡ part ++ more → length part ≡ min 3 (length rest) → 0 < length rest
    → four ≡ quad part → Left at (encode rest) out whole → Left (at + 4) (encode more) (put_mid at (at + 4 - at) out four) whole
text-more rest part more four out whole at e n h f l =
    let k : at + 4 - at ≡ 4 = omega arith in
    let m : length part ≡ min 3 (length (part ++ more)) = rw e at n in
    let q : four ≡ quad rest = f ∙ sym (quad-front part more m) ∙ ap quad (sym e) in
    let p : drop 3 rest ≡ more = ap (drop 3) e ∙ past-front part more m in
    rw p at (left-more at (at + 4 - at) 4 out four (quad rest) (encode (drop 3 rest)) whole (length-quad rest) q k (rw (encode-more rest h) at l))

encode-none : encode [] ≡ []
unfolding encode
encode-none = refl

pub text-all : (rest out whole : List ℕ) (at : ℕ) → length rest ≡ 0 → Left at (encode rest) out whole → out ≡ whole
text-all rest out whole at e l =
    let r : encode rest ≡ [] = ap encode (nil_from_length rest e) ∙ encode-none in
    left-none at out whole (rw r at l)

-- Chunk i of a text.
chunk : (n : ℕ) (t : List ℕ) (i : ℕ) → i < n → get_or (first_chunks 4 n t) i [] ≡ take 4 (drop (4 * i) t)
chunk zero t i h = absurd (omega arith)
chunk (suc n) t zero h = refl
chunk (suc n) t (suc i) h =
    let e : 4 + 4 * i ≡ 4 * suc i = omega arith in
    chunk n (drop 4 t) i (omega arith) ∙ ap (take 4) (drop-drop (4 * i) 4 t ∙ ap (λ j. drop j t) e)

-- The text left at character 4 * i.
abbrev pub rest : List ℕ → ℕ → List ℕ
rest t i = drop (4 * i) t

abbrev pub grouped : Bool → List ℕ → Option (List ℕ)
grouped last q = group last (get_or q 0 0) (get_or q 1 0) (get_or q 2 0) (get_or q 3 0)

four : (u q : List ℕ) (last : Bool) → 4 ≤ length u → q ≡ take 4 u → last ≡ eqb (length (drop 4 u)) 0
    → decode u ≡ before (grouped last q) (decode (drop 4 u))
unfolding decode
four [] q last h e l = absurd (omega arith)
four (a ∷ []) q last h e l = absurd (omega arith)
four (a ∷ b ∷ []) q last h e l = absurd (omega arith)
four (a ∷ b ∷ c ∷ []) q last h e l = absurd (omega arith)
four (a ∷ b ∷ c ∷ d ∷ xs) q last h e l = rw (e, l)

decode-none : decode [] ≡ Some []
unfolding decode
decode-none = refl

before-none : (x : Option (List ℕ)) → before x None ≡ None
before-none None = refl
before-none (Some xs) = refl

-- A text that is not a multiple of four long is no encoding.
pub odd : (t : List ℕ) (n : ℕ) → 0 < n → n < 4 → length t % 4 ≡ n → decode t ≡ None
unfolding decode
odd [] n h k e = absurd (omega arith)
odd (a ∷ []) n h k e = refl
odd (a ∷ b ∷ []) n h k e = refl
odd (a ∷ b ∷ c ∷ []) n h k e = refl
odd (a ∷ b ∷ c ∷ d ∷ xs) n h k e = rw (odd xs n h k (omega arith)) (before-none _)

pub empty : (t : List ℕ) → length t / 4 ≡ 0 → length t % 4 ≡ 0 → decode t ≡ Some []
empty t q r = ap decode (nil_from_length t (omega (arith, q, r))) ∙ decode-none

-- What is left after one more quad.
past : (t : List ℕ) (i : ℕ) → drop 4 (rest t i) ≡ rest t (i + 1)
past t i =
    let e : 4 * i + 4 ≡ 4 * (i + 1) = omega arith in
    drop-drop 4 (4 * i) t ∙ ap (λ j. drop j t) e

more : (xs : List ℕ) → 0 < length xs → false ≡ eqb (length xs) 0
more xs h = grind (arith, nat_tests)

-- A text of whole quads, as its last one and those in front.
module _ (t : List ℕ) (qs front : List (List ℕ)) (last : List ℕ) (e : qs ≡ first_chunks 4 (length t / 4) t) (m : length qs ≡ length t / 4)
    (l : length t % 4 ≡ 0) (s : qs ≡ front ++ (last ∷ [])) (n : length front + 1 ≡ length qs) where
  pub size : length t ≡ 4 * length front + 4
  size = omega (arith, m, l, n)

  quad-at : (i : ℕ) → i < length front → get_or front i [] ≡ take 4 (rest t i)
  quad-at i h =
      sym (get_or-append front (last ∷ []) [] i h) ∙ ap (λ (z : List (List ℕ)). get_or z i []) (sym s ∙ e)
      ∙ chunk (length t / 4) t i (omega (arith, m, n))

  quad-last : last ≡ take 4 (rest t (length front))
  quad-last =
      sym (get_or-append_seam front last [] []) ∙ ap (λ (z : List (List ℕ)). get_or z (length front) []) (sym s ∙ e)
      ∙ chunk (length t / 4) t (length front) (omega (arith, m, n))

  pub read-front : (i : ℕ) → i < length front → decode (rest t i) ≡ before (grouped false (get_or front i [])) (decode (rest t (i + 1)))
  read-front i h =
      let a : 4 ≤ length (rest t i) = rw length-drop (omega (arith, size)) in
      let b : false ≡ eqb (length (drop 4 (rest t i))) 0 = more (drop 4 (rest t i)) (rw (past t i, length-drop) (omega (arith, size))) in
      four (rest t i) (get_or front i []) false a (quad-at i h) b ∙ ap (λ z. before (grouped false (get_or front i [])) (decode z)) (past t i)

  pub read-last : decode (rest t (length front)) ≡ before (grouped true last) (Some [])
  read-last =
      let a : 4 ≤ length (rest t (length front)) = rw length-drop (omega (arith, size)) in
      let z : drop 4 (rest t (length front)) ≡ [] = nil_from_length _ (rw (past t (length front), length-drop) (omega (arith, size))) in
      let b : true ≡ eqb (length (drop 4 (rest t (length front)))) 0 = rw z refl in
      four (rest t (length front)) last true a quad-last b ∙ ap (λ x. before (grouped true last) (decode x)) z ∙ ap (before (grouped true last)) decode-none

-- Counting the bytes.
plus-more : (total : ℕ) (xs : List ℕ) (y : Option (List ℕ)) → plus (total + length xs) (counted y) ≡ plus total (counted (before (Some xs) y))
plus-more total xs None = refl
plus-more total xs (Some ys) =
    let e : total + length xs + length ys ≡ total + length (xs ++ ys) = simp length-append (omega arith) in
    ap {B = Option ℕ} (λ n. Some n) e

pub count-more : (total k : ℕ) (u v : Option (List ℕ)) (bs : List ℕ) (w : Option ℕ) → u ≡ before (Some bs) v → length bs ≡ k → plus total (counted u) ≡ w
    → plus (total + k) (counted v) ≡ w
count-more total k u v bs w e n i = rw n at (plus-more total bs v ∙ ap (λ x. plus total (counted x)) (sym e) ∙ i)

pub count-none : (total : ℕ) (u : Option (List ℕ)) (w : Option ℕ) → u ≡ None → plus total (counted u) ≡ w → None ≡ w
count-none total u w e i = ap (λ x. plus total (counted x)) (sym e) ∙ i

pub count-last : (total : ℕ) (u : Option (List ℕ)) (bs : List ℕ) (w : Option ℕ) → u ≡ before (Some bs) (Some []) → plus total (counted u) ≡ w
    → Some (total + length bs) ≡ w
count-last total u bs w e i =
    let n : total + length bs + 0 ≡ total + length bs = omega arith in
    rw n at (count-more total (length bs) u (Some []) bs w e refl i)

-- Writing them.
pub left-found : (x : Option (List ℕ)) (out : List ℕ) → fits x out ≡ true → (is_some x ≡ true) × Left 0 (found x) out (at_front (found x) out)
left-found None out h = absurd (clash h)
left-found (Some xs) out h = (refl, left-all xs out (leb-true (length xs) (length out) h))

some-after : (xs : List ℕ) (y : Option (List ℕ)) → is_some (before (Some xs) y) ≡ true → is_some y ≡ true
some-after xs None h = absurd (clash h)
some-after xs (Some ys) h = refl

some-before : (x y : Option (List ℕ)) → is_some (before x y) ≡ true → is_some y ≡ true
some-before None y h = absurd (clash h)
some-before (Some xs) y h = some-after xs y h

-- A text that is an encoding has whole quads, and none of fewer than four characters has any bytes.
pub even : (t : List ℕ) → is_some (decode t) ≡ true → length t % 4 ≡ 0
unfolding decode
even [] h = refl
even (a ∷ []) h = absurd (clash h)
even (a ∷ b ∷ []) h = absurd (clash h)
even (a ∷ b ∷ c ∷ []) h = absurd (clash h)
even (a ∷ b ∷ c ∷ d ∷ xs) h = let e = even xs (some-before (group (eqb (length xs) 0) a b c d) (decode xs) h) in omega arith

pub not_read : (u v : Option (List ℕ)) → u ≡ before None v → is_some u ≡ true → ⊥
not_read u v e s = clash (rw e at s)

both : (xs out whole : List ℕ) (y : Option (List ℕ)) (at : ℕ) → (is_some (before (Some xs) y) ≡ true) × Left at (found (before (Some xs) y)) out whole
    → (is_some y ≡ true) × Left at (xs ++ found y) out whole
both xs out whole None at l = absurd (clash l.0)
both xs out whole (Some ys) at l = (refl, l.1)

module _ (at : ℕ) (u v : Option (List ℕ)) (bs out whole : List ℕ) (e : u ≡ before (Some bs) v)
    (i : (is_some u ≡ true) × Left at (found u) out whole) where
  pub bytes-room : at + length bs ≤ length out
  bytes-room =
      let b = both bs out whole v at (rw e at i) in
      let r : at + length (bs ++ found v) ≤ length out = b.1.0 in
      let a = length-append bs (found v) in
      omega arith

  pub bytes-more : (k : ℕ) (part : List ℕ) → length bs ≡ k → part ≡ bs
      → (is_some v ≡ true) × Left (at + k) (found v) (put_mid at (at + k - at) out part) whole
  bytes-more k part n f =
      let b = both bs out whole v at (rw e at i) in
      let m : at + k - at ≡ k = omega arith in
      (b.0, left-more at (at + k - at) k out part bs (found v) whole n f m b.1)

placed-found : (x : Option (List ℕ)) (old : List ℕ) → fits x old ≡ true → at_front (found x) old ≡ placed x old
placed-found None old h = absurd (clash h)
placed-found (Some xs) old h = rw h

-- All is written, where nothing is left.
pub bytes-all : (x : Option (List ℕ)) (at : ℕ) (out old : List ℕ) → fits x old ≡ true → Left at [] out (at_front (found x) old) → out ≡ placed x old
bytes-all x at out old h l = left-none at out (at_front (found x) old) l ∙ placed-found x old h

pub nothing : (t old : List ℕ) → length t / 4 ≡ 0 → fits (decode t) old ≡ true → old ≡ placed (decode t) old
nothing t old q h =
    let f = left-found (decode t) old h in
    let d = empty t q (even t f.0) in
    let z : old ≡ at_front (found (decode t)) old = rw d refl in
    z ∙ placed-found (decode t) old h
