-- What a hasher stands for after a piece that its buffer has room for.
use Rattle.std.proofs.Common.{◌≡◌, ℕ, suc, ◌+◌, ◌*◌, ◌/◌, ◌%◌, ◌^◌, ◌<◌, ◌≤◌, List, [], ◌∷◌, ◌++◌, length, take, drop, replicate, sym, refl, ap, ◌∙◌, arith, length-append, length-take, length-take-le, take_all, rules}
use borrow.Rule.Slice.PartMut.{put_mid}
use Rattle.std.proofs.lemmas.List.{drop_all, take-replicate}
use Rattle.std.proofs.lemmas.Slice.{take-put_mid, overwrites}
use Rattle.digest.specs.declared.hasher.Hasher.{Hasher}
use Rattle.digest.specs.Running.{Running, start, absorb, finished}
use Rattle.digest.specs.Stands.{running}
use Rattle.digest.specs.Sha256.{hashed, compress, be8, zeros, padding, output}
use Rattle.digest.proofs.Pieces.{joins, absorb-none}

module _ (h : Hasher) (d : List ℕ) (k : ℕ) (whole : length h.buffer ≡ 64) (fits : h.total % 64 + length d ≤ 64) where
  long : length (take (h.total % 64) h.buffer ++ d) ≡ h.total % 64 + length d
  long = length-append (take (h.total % 64) h.buffer) d ∙ ap (λ x. x + length d) (length-take-le (h.total % 64) h.buffer (omega arith))

  put : take (h.total % 64 + length d) (put_mid (h.total % 64) k h.buffer d) ≡ take (h.total % 64) h.buffer ++ d
  put = take-put_mid (h.total % 64) k h.buffer d _ refl (omega arith)

  pub room_left : h.total % 64 + length d < 64
      → running record { state = h.state; buffer = put_mid (h.total % 64) k h.buffer d; total = (h.total + length d) % 2 ^ 64 }
      ≡ absorb (running h) d
  unfolding absorb hashed
  room_left l =
      let n : length (take (h.total % 64) h.buffer ++ d) / 64 ≡ 0 = omega (arith, long) in
      let t : (h.total + length d) % 2 ^ 64 % 64 ≡ h.total % 64 + length d = omega arith in
      rw (n, t, put)

  pub room_gone : (s : List ℕ) → h.total % 64 + length d ≡ 64 → k ≡ length d → s ≡ compress h.state (put_mid (h.total % 64) k h.buffer d)
      → running record { state = s; buffer = put_mid (h.total % 64) k h.buffer d; total = (h.total + length d) % 2 ^ 64 }
      ≡ absorb (running h) d
  unfolding absorb hashed
  room_gone s e f g =
      let n : length (take (h.total % 64) h.buffer ++ d) / 64 ≡ 1 = omega (arith, long) in
      let t : (h.total + length d) % 2 ^ 64 % 64 ≡ 0 = omega arith in
      let l : length (put_mid (h.total % 64) k h.buffer d) ≡ 64 = search (rules, overwrites) in
      let b : put_mid (h.total % 64) k h.buffer d ≡ take (h.total % 64) h.buffer ++ d =
      sym (take_all 64 (put_mid (h.total % 64) k h.buffer d) (omega arith)) ∙ (rw e at put) in
      let m : take 64 (take (h.total % 64) h.buffer ++ d) ≡ take (h.total % 64) h.buffer ++ d = take_all 64 (take (h.total % 64) h.buffer ++ d) (omega (arith, long)) in
      let w : drop 64 (take (h.total % 64) h.buffer ++ d) ≡ [] = drop_all 64 (take (h.total % 64) h.buffer ++ d) (omega (arith, long)) in
      rw (n, t, g, b, m, w)

-- From part to part: r stood before the part p, and q is what is left after it.
pub count_more : (r s : Running) (p : List ℕ) → s ≡ absorb r p → s.count ≡ (r.count + length p) % 2 ^ 64
unfolding absorb
count_more r s p e = ap (λ (x : Running). x.count) e

pub parts_more : (r s : Running) (p q b : List ℕ) → s ≡ absorb r p → b ≡ p ++ q → absorb s q ≡ absorb r b
parts_more r s p q b e f = rw (e, joins, f)

pub parts_all : (h : Hasher) (b : List ℕ) → h.total < 2 ^ 64 → length b ≡ 0 → running h ≡ absorb (running h) b
parts_all h [] f n = sym (absorb-none (running h) (simp length-take (omega arith)) f)
parts_all h (x ∷ b) f n = absurd (omega arith)

pub absorbed_more : (r s : Running) (m bs : List ℕ) → r ≡ absorb start m → s ≡ absorb r bs → s ≡ absorb start (m ++ bs)
absorbed_more r s m bs a e = e ∙ ap (λ x. absorb x bs) a ∙ joins start m bs

-- The padding in its two parts: the one bit with its zeros, then the length.
pub marker : (k n : ℕ) → k ≡ suc n → n < 64 → take {A = ℕ} k (128 ∷ replicate 63 0) ≡ 128 ∷ replicate n 0
marker k n e l = rw e (ap {B = List ℕ} (λ x. 128 ∷ x) (take-replicate n 63 0 (omega arith)))

pub finish_all : (r s t : Running) (p b : List ℕ) → p ≡ 128 ∷ replicate (zeros r.count) 0 → b ≡ be8 (r.count * 8 % 2 ^ 64)
    → s ≡ absorb r p → t ≡ absorb s b → output t.value ≡ finished r
unfolding finished padding
finish_all r s t p b f g e h = rw (h, e, joins, f, g)
