-- GCM (SP 800-38D) over a block cipher E, with an IV of 12 bytes and a tag of 12 bytes.
use Rattle.std.specs.Prelude.{◌≡◌, ℕ, zero, suc, ◌+◌, ◌*◌, ◌/◌, ◌%◌, ◌^◌, cond, List, [], ◌∷◌, length, take, Some, None, Option, bit_xor, slice_index}
use Rattle.ghash.specs.Field.{product}
use Rattle.octets.specs.Equality.{same}
use Rattle.gcm.specs.Blocks.{block_bytes, number, block_at}

-- GHASH (section 6.4): y after the first n blocks of xs, under the hash key h.
unfoldable pub absorb : ℕ → List ℕ → ℕ → ℕ → ℕ
absorb h xs zero y = y
absorb h xs (suc n) y = product (bit_xor (absorb h xs n y) (block_at xs n)) h

unfoldable pub blocks : List ℕ → ℕ
blocks xs = (length xs + 15) / 16

-- The last block: the lengths of additional data and text in bits, 64 for each.
abbrev pub lengths : List ℕ → List ℕ → ℕ
lengths added text = (8 * length added) % 2 ^ 64 * 2 ^ 64 + (8 * length text) % 2 ^ 64

abbrev pub ghash : ℕ → List ℕ → List ℕ → ℕ
ghash h added text = product (bit_xor (absorb h text (blocks text) (absorb h added (blocks added) 0)) (lengths added text)) h

-- The counter block n under an IV of 12 bytes: those, and n in 32 bits.
unfoldable pub counter : List ℕ → ℕ → ℕ
counter iv n = number iv + n % 2 ^ 32

-- GCTR (section 6.5) from the counter block of the number first on: byte p of the key stream, and bytes with the stream added.
unfoldable pub key_byte : (ℕ → ℕ) → List ℕ → ℕ → ℕ → ℕ
key_byte E iv first p = slice_index (block_bytes (E (counter iv (p / 16 + first)))) (p % 16)

-- Bytes from place p of a stream f on, with the stream added.
unfoldable pub stream : (ℕ → ℕ) → ℕ → List ℕ → List ℕ
stream f p [] = []
stream f p (x ∷ xs) = bit_xor x (f p) ∷ stream f (suc p) xs

unfoldable pub gctr : (ℕ → ℕ) → List ℕ → ℕ → List ℕ → List ℕ
gctr E iv first xs = stream (key_byte E iv first) 0 xs

-- Authenticated encryption (section 7.1): the text goes through GCTR from counter 2 on; the tag is the leftmost 96 bits of the
-- hash, under the key 0 enciphered, with the block of counter 1 added.
abbrev pub encrypted : (ℕ → ℕ) → List ℕ → List ℕ → List ℕ
encrypted E iv text = gctr E iv 2 text

unfoldable pub tag_of : (ℕ → ℕ) → List ℕ → List ℕ → List ℕ → List ℕ
tag_of E iv added body = take 12 (block_bytes (bit_xor (E (counter iv 1)) (ghash (E 0) added body)))

-- Authenticated decryption (section 7.2): the text, or none where the tag is not the body's own.
abbrev pub decrypted : (ℕ → ℕ) → List ℕ → List ℕ → List ℕ → List ℕ → Option (List ℕ)
decrypted E iv added body tag = cond (same tag (tag_of E iv added body)) (Some (gctr E iv 2 body)) None

-- Decryption gives back, under the same IV and additional data, what was encrypted.
abbrev pub DecryptsWhatWasEncrypted : Type 0
DecryptsWhatWasEncrypted =
    (E : ℕ → ℕ) (iv added text : List ℕ) →
    decrypted E iv added (encrypted E iv text) (tag_of E iv added (encrypted E iv text)) ≡ Some text

-- A body is as long as its text, and a tag has 12 bytes.
abbrev pub LengthsKept : Type 0
LengthsKept =
    (E : ℕ → ℕ) (iv added text : List ℕ) →
    (length (encrypted E iv text) ≡ length text) × (length (tag_of E iv added text) ≡ 12)
