-- Four writes lay a message out.
use Rattle.std.proofs.Common.{◌≡◌, ℕ, ◌+◌, ◌≤◌, List, ◌++◌, length, drop, Ok, ap, ◌∙◌, append_assoc, arith}
use Rattle.std.proofs.lemmas.List.{drop-drop}
use Rattle.std.proofs.lemmas.Bool.{le-leb}
use Rattle.headers.specs.Headers.{header_bytes}
use Rattle.message.specs.Meaning.{Sealing}
use Rattle.message.specs.Messages.{heading, message, written}

module _ (s : Sealing) (c n : ℕ) (random p a old : List ℕ) where
  goes : 4124 ≤ length old → 28 + length p + length a ≤ 4124
      → written s c n random p a old
      ≡ record { answer = Ok (28 + length p + length a); output = message s c n random p a ++ drop (28 + length p + length a) old }
  unfolding written
  goes h f = rw (le-leb 4124 (length old) h, le-leb (28 + length p + length a) 4124 f)

  -- What is written into the output's four parts: h is the header as copied, b and t what the seal made of it.
  pub wrote : (h h' p' b t t' a' x y z : List ℕ) → 4124 ≤ length old → 28 + length p + length a ≤ 4124
      → h ≡ header_bytes (heading c n random (length p) (length a)) → h' ≡ h → p' ≡ p → a' ≡ a → b ≡ (s h p').0 → t ≡ (s h p').1 → t' ≡ t
      → x ≡ drop 16 old → y ≡ drop (length p) x → z ≡ drop 12 y
      → h' ++ (b ++ (t' ++ (a' ++ drop (length a) z))) ≡ (written s c n random p a old).output
  unfolding message
  wrote h h' p' b t t' a' x y z room fit eh eh' ep ea eb et et' ex ey ez =
      let f : 16 + (length p + (12 + length a)) ≡ 28 + length p + length a = omega arith in
      let rest : drop (length a) z ≡ drop (28 + length p + length a) old =
      rw (ez, ey, ex, drop-drop (length a) 12 (drop (length p) (drop 16 old)), drop-drop (12 + length a) (length p) (drop 16 old), drop-drop (length p + (12 + length a)) 16 old, f) in
      ap (λ r. h' ++ (b ++ (t' ++ (a' ++ r)))) rest ∙ rw (goes room fit, et', et, eb, ep, ea, eh', eh) (simp append_assoc)
