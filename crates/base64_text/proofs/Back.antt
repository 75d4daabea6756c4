-- From bytes to text and back, and from text to bytes and back.
use Rattle.std.proofs.Common.{◌≡◌, ℕ, ◌+◌, ◌*◌, ◌/◌, ◌%◌, ◌<◌, ◌≤◌, Bool, true, false, cond, ◌&&◌, eqb, ◌⊎◌, List, [], ◌∷◌, ◌++◌, length, is_some, Some, None, Decides, Option, sym, refl, ap, ◌∙◌, inl, inr, arith, eqb-true}
use borrow.Author.Tests.{clash}
use Rattle.std.specs.List.{AllByRecursion}
use Rattle.base64_text.specs.Base64.{letter, value, encode, one_byte, two_bytes, three_bytes, group, before, decode}
use Rattle.base64_text.specs.Groups.{counted}
use Rattle.base64_text.specs.Laws.{Bytes, Canonical, DecodesWhatWasEncoded, EncodingOfWhatItDecodesTo}
use Rattle.base64_text.proofs.Alphabet.{value-letter, letter_no_pad, value_small, value-high, letter-value}

kept : (b : Bool) (xs ys : List ℕ) → ◌≡◌ {A = Option (List ℕ)} (cond b (Some xs) None) (Some ys) → (b ≡ true) × (ys ≡ xs)
kept true xs ys e = (refl, cc)
kept false xs ys e = let z : ◌≡◌ {A = ℕ} 0 1 = cc in absurd (omega arith)

and_no : (q : Bool) → (q && false) ≡ false
and_no true = refl
and_no false = refl

-- The letters of bytes give the bytes.
one_back : (a : ℕ) → a < 256 → group true (letter (a / 4)) (letter (a % 4 * 16)) 61 61 ≡ Some (a ∷ [])
one_back a ha =
    let w = value-letter (a / 4) (omega arith) in
    let x = value-letter (a % 4 * 16) (omega arith) in
    let ea : a / 4 * 4 + a % 4 * 16 / 16 ≡ a = omega arith in
    let z : a % 4 * 16 % 16 ≡ 0 = omega arith in
    rw (w, x, z, ea)

two_back : (a b : ℕ) → a < 256 → b < 256
    → group true (letter (a / 4)) (letter (a % 4 * 16 + b / 16)) (letter (b % 16 * 4)) 61 ≡ Some (a ∷ b ∷ [])
two_back a b ha hb =
    let w = value-letter (a / 4) (omega arith) in
    let x = value-letter (a % 4 * 16 + b / 16) (omega arith) in
    let y = value-letter (b % 16 * 4) (omega arith) in
    let p = letter_no_pad (b % 16 * 4) (omega arith) in
    let ea : a / 4 * 4 + (a % 4 * 16 + b / 16) / 16 ≡ a = omega arith in
    let eb : (a % 4 * 16 + b / 16) % 16 * 16 + b % 16 * 4 / 4 ≡ b = omega arith in
    let z : b % 16 * 4 % 4 ≡ 0 = omega arith in
    rw (p, w, x, y, z, ea, eb)

three_back : (q : Bool) (a b c : ℕ) → a < 256 → b < 256 → c < 256
    → group q (letter (a / 4)) (letter (a % 4 * 16 + b / 16)) (letter (b % 16 * 4 + c / 64)) (letter (c % 64)) ≡ Some (a ∷ b ∷ c ∷ [])
three_back q a b c ha hb hc =
    let w = value-letter (a / 4) (omega arith) in
    let x = value-letter (a % 4 * 16 + b / 16) (omega arith) in
    let y = value-letter (b % 16 * 4 + c / 64) (omega arith) in
    let z = value-letter (c % 64) (omega arith) in
    let p = letter_no_pad (c % 64) (omega arith) in
    let n : (q && eqb (letter (c % 64)) 61) ≡ false = rw p (and_no q) in
    let ea : a / 4 * 4 + (a % 4 * 16 + b / 16) / 16 ≡ a = omega arith in
    let eb : (a % 4 * 16 + b / 16) % 16 * 16 + (b % 16 * 4 + c / 64) / 4 ≡ b = omega arith in
    let ec : (b % 16 * 4 + c / 64) % 4 * 64 + c % 64 ≡ c = omega arith in
    rw (n, w, x, y, z, ea, eb, ec)

pub decodes_back : DecodesWhatWasEncoded
unfolding encode decode
decodes_back [] h = refl
decodes_back (a ∷ []) h = rw (one_back a h.0)
decodes_back (a ∷ b ∷ []) h = rw (two_back a b h.0 h.1.0)
decodes_back (a ∷ b ∷ c ∷ xs) h =
    rw (three_back (eqb (length (encode xs)) 0) a b c h.0 h.1.0 h.1.1.0, decodes_back xs h.1.1.1)

-- The numbers that a group was read from.
one_from : (p q : Option ℕ) (ys : List ℕ) → one_byte p q ≡ Some ys
    → (x : ℕ) × (y : ℕ) × (p ≡ Some x) × (q ≡ Some y) × (y % 16 ≡ 0) × (ys ≡ (x * 4 + y / 16) ∷ [])
one_from None q ys e = let z : ◌≡◌ {A = ℕ} 0 1 = cc in absurd (omega arith)
one_from (Some x) None ys e = let z : ◌≡◌ {A = ℕ} 0 1 = cc in absurd (omega arith)
one_from (Some x) (Some y) ys e = let k = kept (eqb (y % 16) 0) ((x * 4 + y / 16) ∷ []) ys e in (x, y, refl, refl, eqb-true (y % 16) 0 k.0, k.1)

two_from : (p q r : Option ℕ) (ys : List ℕ) → two_bytes p q r ≡ Some ys
    → (x : ℕ) × (y : ℕ) × (z : ℕ) × (p ≡ Some x) × (q ≡ Some y) × (r ≡ Some z) × (z % 4 ≡ 0) × (ys ≡ (x * 4 + y / 16) ∷ (y % 16 * 16 + z / 4) ∷ [])
two_from None q r ys e = let z : ◌≡◌ {A = ℕ} 0 1 = cc in absurd (omega arith)
two_from (Some x) None r ys e = let z : ◌≡◌ {A = ℕ} 0 1 = cc in absurd (omega arith)
two_from (Some x) (Some y) None ys e = let z : ◌≡◌ {A = ℕ} 0 1 = cc in absurd (omega arith)
two_from (Some x) (Some y) (Some z) ys e =
    let k = kept (eqb (z % 4) 0) ((x * 4 + y / 16) ∷ (y % 16 * 16 + z / 4) ∷ []) ys e in
    (x, y, z, refl, refl, refl, eqb-true (z % 4) 0 k.0, k.1)

three-from : (p q r s : Option ℕ) (ys : List ℕ) → three_bytes p q r s ≡ Some ys
    → (x : ℕ) × (y : ℕ) × (z : ℕ) × (w : ℕ) × (p ≡ Some x) × (q ≡ Some y) × (r ≡ Some z) × (s ≡ Some w)
    × (ys ≡ (x * 4 + y / 16) ∷ (y % 16 * 16 + z / 4) ∷ (z % 4 * 64 + w) ∷ [])
three-from None q r s ys e = let z : ◌≡◌ {A = ℕ} 0 1 = cc in absurd (omega arith)
three-from (Some x) None r s ys e = let z : ◌≡◌ {A = ℕ} 0 1 = cc in absurd (omega arith)
three-from (Some x) (Some y) None s ys e = let z : ◌≡◌ {A = ℕ} 0 1 = cc in absurd (omega arith)
three-from (Some x) (Some y) (Some z) None ys e = let z : ◌≡◌ {A = ℕ} 0 1 = cc in absurd (omega arith)
three-from (Some x) (Some y) (Some z) (Some w) ys e = (x, y, z, w, refl, refl, refl, refl, cc)

-- A group that was read: its bytes' letters are its characters, which are no lower than '+'.
record Read (last : Bool) (a b c d : ℕ) (ys : List ℕ) : Type 0 where
  text : (zs : List ℕ) → (last ≡ true → zs ≡ []) → encode (ys ++ zs) ≡ a ∷ b ∷ c ∷ d ∷ encode zs
  small : Bytes ys
  high : (43 ≤ a) × (43 ≤ b) × (43 ≤ c) × (43 ≤ d)

one_read : (a b c d : ℕ) (ys : List ℕ) → d ≡ 61 → c ≡ 61 → one_byte (value a) (value b) ≡ Some ys → Read true a b c d ys
unfolding encode
one_read a b c d ys ed ec e =
    let f = one_from (value a) (value b) ys e in
    let x = f.0 in
    let y = f.1 in
    let sx = value_small a x f.2 in
    let sy = value_small b y f.3 in
    let m : y % 16 ≡ 0 = f.4 in
    let hx : (x * 4 + y / 16) / 4 ≡ x = omega arith in
    let hy : (x * 4 + y / 16) % 4 * 16 ≡ y = omega arith in
    record {
      text = λ zs z. rw (f.5, z refl, hx, hy, letter-value a x f.2, letter-value b y f.3, ed, ec);
      small = rw f.5 (omega arith, tt);
      high = (value-high a x f.2, value-high b y f.3, omega arith, omega arith);
    }

two_read : (a b c d : ℕ) (ys : List ℕ) → d ≡ 61 → two_bytes (value a) (value b) (value c) ≡ Some ys → Read true a b c d ys
unfolding encode
two_read a b c d ys ed e =
    let f = two_from (value a) (value b) (value c) ys e in
    let x = f.0 in
    let y = f.1 in
    let z = f.2 in
    let sx = value_small a x f.3 in
    let sy = value_small b y f.4 in
    let sz = value_small c z f.5 in
    let m : z % 4 ≡ 0 = f.6 in
    let hx : (x * 4 + y / 16) / 4 ≡ x = omega arith in
    let hy : (x * 4 + y / 16) % 4 * 16 + (y % 16 * 16 + z / 4) / 16 ≡ y = omega arith in
    let hz : (y % 16 * 16 + z / 4) % 16 * 4 ≡ z = omega arith in
    record {
      text = λ zs n. rw (f.7, n refl, hx, hy, hz, letter-value a x f.3, letter-value b y f.4, letter-value c z f.5, ed);
      small = rw f.7 (omega arith, (omega arith, tt));
      high = (value-high a x f.3, value-high b y f.4, value-high c z f.5, omega arith);
    }

three_read : (last : Bool) (a b c d : ℕ) (ys : List ℕ) → three_bytes (value a) (value b) (value c) (value d) ≡ Some ys → Read last a b c d ys
unfolding encode
three_read last a b c d ys e =
    let f = three-from (value a) (value b) (value c) (value d) ys e in
    let x = f.0 in
    let y = f.1 in
    let z = f.2 in
    let w = f.3 in
    let sx = value_small a x f.4 in
    let sy = value_small b y f.5 in
    let sz = value_small c z f.6 in
    let sw = value_small d w f.7 in
    let hx : (x * 4 + y / 16) / 4 ≡ x = omega arith in
    let hy : (x * 4 + y / 16) % 4 * 16 + (y % 16 * 16 + z / 4) / 16 ≡ y = omega arith in
    let hz : (y % 16 * 16 + z / 4) % 16 * 4 + (z % 4 * 64 + w) / 64 ≡ z = omega arith in
    let hw : (z % 4 * 64 + w) % 64 ≡ w = omega arith in
    record {
      text = λ zs n. rw (f.8, hx, hy, hz, hw, letter-value a x f.4, letter-value b y f.5, letter-value c z f.6, letter-value d w f.7);
      small = rw f.8 (omega arith, (omega arith, (omega arith, tt)));
      high = (value-high a x f.4, value-high b y f.5, value-high c z f.6, value-high d w f.7);
    }

way : {X : Type 0} (b : Bool) (x y z : X) → cond b x y ≡ z → ((b ≡ true) × (x ≡ z)) ⊎ ((b ≡ false) × (y ≡ z))
way true x y z e = inl (refl, e)
way false x y z e = inr (refl, e)

padded : (a b c d : ℕ) (ys : List ℕ) → d ≡ 61
    → cond (eqb c 61) (one_byte (value a) (value b)) (two_bytes (value a) (value b) (value c)) ≡ Some ys → Read true a b c d ys
padded a b c d ys ed e =
    elim (way (eqb c 61) (one_byte (value a) (value b)) (two_bytes (value a) (value b) (value c)) (Some ys) e) [
      | inl h ↦ one_read a b c d ys ed (eqb-true c 61 h.0) h.1
      | inr h ↦ two_read a b c d ys ed h.1
    ]

read : (last : Bool) (a b c d : ℕ) (ys : List ℕ) → group last a b c d ≡ Some ys → Read last a b c d ys
read true a b c d ys e =
    elim (
    way (eqb d 61) (cond (eqb c 61) (one_byte (value a) (value b)) (two_bytes (value a) (value b) (value c)))
    (three_bytes (value a) (value b) (value c) (value d)) (Some ys) e
    ) [
      | inl h ↦ padded a b c d ys (eqb-true d 61 h.0) h.1
      | inr h ↦ three_read true a b c d ys h.1
    ]
read false a b c d ys e = three_read false a b c d ys e

parts : (p q : Option (List ℕ)) (xs : List ℕ) → before p q ≡ Some xs
    → (ys : List ℕ) × (zs : List ℕ) × (p ≡ Some ys) × (q ≡ Some zs) × (xs ≡ ys ++ zs)
parts None q xs e = let z : ◌≡◌ {A = ℕ} 0 1 = cc in absurd (omega arith)
parts (Some ys) None xs e = let z : ◌≡◌ {A = ℕ} 0 1 = cc in absurd (omega arith)
parts (Some ys) (Some zs) xs e = (ys, zs, refl, refl, cc)

none_last : (t zs : List ℕ) → eqb (length t) 0 ≡ true → decode t ≡ Some zs → zs ≡ []
unfolding decode
none_last [] zs h e = cc
none_last (a ∷ t) zs h e = let z = eqb-true (length (a ∷ t)) 0 h in absurd (omega arith)

all_append : (xs ys : List ℕ) → Bytes xs → Bytes ys → Bytes (xs ++ ys)
all_append [] ys h k = k
all_append (x ∷ xs) ys h k = (h.0, all_append xs ys h.1 k)

-- A text that was decoded: the text of its bytes, and no byte of it is lower than '+', which is 43.
record Whole (t xs : List ℕ) : Type 0 where
  text : encode xs ≡ t
  small : Bytes xs
  high : AllByRecursion (λ b. 43 ≤ b) t

whole : (t xs : List ℕ) → decode t ≡ Some xs → Whole t xs
unfolding encode decode
whole [] xs e = let n : xs ≡ [] = cc in record { text = rw n; small = rw n tt; high = tt }
whole (a ∷ []) xs e = let z : ◌≡◌ {A = ℕ} 0 1 = cc in absurd (omega arith)
whole (a ∷ b ∷ []) xs e = let z : ◌≡◌ {A = ℕ} 0 1 = cc in absurd (omega arith)
whole (a ∷ b ∷ c ∷ []) xs e = let z : ◌≡◌ {A = ℕ} 0 1 = cc in absurd (omega arith)
whole (a ∷ b ∷ c ∷ d ∷ t) xs e =
    let p = parts (group (eqb (length t) 0) a b c d) (decode t) xs e in
    let r = read (eqb (length t) 0) a b c d p.0 p.2 in
    let w = whole t p.1 p.3 in
    record {
      text = rw (p.4, r.text p.1 (λ h. none_last t p.1 h p.3), w.text);
      small = rw p.4 (all_append p.0 p.1 r.small w.small);
      high = (r.high.0, (r.high.1, (r.high.2, (r.high.3, w.high))));
    }

pub encodes_back : EncodingOfWhatItDecodesTo
encodes_back t xs e = (whole t xs e).text

-- What a text decodes to are bytes.
pub decoded-bytes : (t xs : List ℕ) → decode t ≡ Some xs → Bytes xs
decoded-bytes t xs e = (whole t xs e).small

-- No byte of a canonical text is lower than 43.
pub canonical_high : (t xs : List ℕ) → decode t ≡ Some xs → AllByRecursion (λ b. 43 ≤ b) t
canonical_high t xs e = (whole t xs e).high

pub encoding_high : (xs : List ℕ) → Bytes xs → AllByRecursion (λ b. 43 ≤ b) (encode xs)
encoding_high xs h = canonical_high (encode xs) xs (decodes_back xs h)

there : (x : Option (List ℕ)) → is_some x ≡ true → (xs : List ℕ) × (x ≡ Some xs)
there None e = absurd (clash e)
there (Some xs) e = (xs, refl)

pub some-counted : (x : Option (List ℕ)) → is_some (counted x) ≡ is_some x
some-counted None = refl
some-counted (Some xs) = refl

-- A text decodes exactly where it is the encoding of some bytes.
pub decides : (t : List ℕ) (r : Bool) → r ≡ is_some (decode t) → Decides r (Canonical t)
decides t r e = (
  λ h.
      let d = there (decode t) (sym e ∙ h) in
      record { bytes = d.0; small = decoded-bytes t d.0 d.1; encodes = encodes_back t d.0 d.1 },
  λ k. e ∙ ap (λ x. is_some (decode x)) (sym k.encodes) ∙ ap is_some (decodes_back k.bytes k.small),
)
