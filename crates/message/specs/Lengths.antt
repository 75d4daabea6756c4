-- The length of a message, under every seal that keeps lengths.
use Rattle.std.specs.Prelude.{◌≡◌, ℕ, ◌+◌, List, [], length, codes}
use Rattle.message.specs.Meaning.{Sealing}
use Rattle.message.specs.Messages.{message}

-- The body is as long as the payload, the tag has 12 bytes.
pub record Keeps (s : Sealing) : Type 0 where
  pub level : (h p : List ℕ) → length (s h p).0 ≡ length p
  pub twelve : (h p : List ℕ) → length (s h p).1 ≡ 12

abbrev pub LengthOfAMessage : Type 0
LengthOfAMessage =
    (s : Sealing) → Keeps s → (c n : ℕ) (random payload after : List ℕ)
    → length (message s c n random payload after) ≡ 28 + length payload + length after

pub record LengthsWorked : Type 0 where
  pub ready : (s : Sealing) → Keeps s → (c n : ℕ) (random : List ℕ) → length (message s c n random (codes "ready") []) ≡ 33
  pub listing : (s : Sealing) → Keeps s → (c n : ℕ) (random payload : List ℕ) → length payload ≡ 93 → length (message s c n random payload []) ≡ 121
