-- The laws of authenticated encryption.
use Rattle.std.proofs.Common.{◌≡◌, ℕ, List, Some, refl, ap}
use Rattle.octets.proofs.Agreement.{same_decides}
use Rattle.gcm.specs.Blocks.{block_bytes}
use Rattle.gcm.specs.Gcm.{gctr, encrypted, tag_of, DecryptsWhatWasEncrypted, LengthsKept}
use Rattle.gcm.proofs.Stream.{stream_twice, stream-length}

twice : (E : ℕ → ℕ) (iv text : List ℕ) (first : ℕ) → gctr E iv first (gctr E iv first text) ≡ text
unfolding gctr
twice E iv text first = stream_twice _ 0 text

pub decrypts : DecryptsWhatWasEncrypted
decrypts E iv added text =
    let tag = tag_of E iv added (encrypted E iv text) in
    rw ((same_decides tag tag).1 refl) (ap Some (twice E iv text 2))

pub lengths-kept : LengthsKept
unfolding gctr tag_of block_bytes
lengths-kept E iv added text = (stream-length _ 0 text, refl)
