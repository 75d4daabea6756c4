-- A file announced, and carried over in fragments.
use Rattle.std.specs.Prelude.{◌≡◌, ℕ, ◌^◌, ◌≤◌, List, length, take, vec_items, Option, MatchOption}
use Rattle.digest.specs.Sha256.{sha256}
use Rattle.fragments.specs.Progresses.{standing}
use Rattle.transfer.specs.declared.announcement.Announcement.{Announcement}
use Rattle.transfer.specs.declared.receiver.Receiver.{Receiver}

-- An announcement gives the file's name, size and digest; there is none for a file of 2 ^ 32 bytes or more.
abbrev pub Announced : Option Announcement → List ℕ → List ℕ → Type 0
Announced r name file =
    MatchOption r (2 ^ 32 ≤ length file) (λ a. (a.name.now ≡ name) × (a.size ≡ length file) × (a.digest ≡ sha256 file))

-- A receiver holds the front of a file, as far as its progress says, and expects the file's size.
pub record Holds (r : Receiver) (file : List ℕ) : Type 0 where
  pub within : (standing r.progress).so_far ≤ length file
  pub expects : (standing r.progress).size ≡ length file
  pub front : vec_items r.bytes ≡ take (standing r.progress).so_far file

-- A receiver holds what it held, and stands where it stood.
abbrev pub Unmoved : Receiver → Receiver → Type 0
Unmoved r s = (standing s.progress ≡ standing r.progress) × (vec_items s.bytes ≡ vec_items r.bytes)
