-- The laws of encoding and decoding, and worked texts.
use Rattle.std.specs.Prelude.{◌≡◌, ℕ, zero, suc, ◌<◌, List, [], ◌∷◌, map, Some, codes}
use Rattle.std.specs.List.{AllByRecursion}
use Rattle.base64_text.specs.Base64.{letter, encode, decode}

-- Every element is a byte.
abbrev pub Bytes : List ℕ → Type 0
Bytes xs = AllByRecursion (λ x. x < 256) xs

-- A text is the encoding of some bytes.
pub record Canonical (text : List ℕ) : Type 0 where
  pub bytes : List ℕ
  pub small : Bytes bytes
  pub encodes : encode bytes ≡ text

-- Decoding what was encoded gives the bytes back.
abbrev pub DecodesWhatWasEncoded : Type 0
DecodesWhatWasEncoded = (xs : List ℕ) → Bytes xs → decode (encode xs) ≡ Some xs

-- Encoding what a text decodes to gives the text back.
abbrev pub EncodingOfWhatItDecodesTo : Type 0
EncodingOfWhatItDecodesTo = (t xs : List ℕ) → decode t ≡ Some xs → encode xs ≡ t

-- The numbers from n on, as many as asked.
abbrev up_from : ℕ → ℕ → List ℕ
up_from n zero = []
up_from n (suc k) = n ∷ up_from (suc n) k

-- The letters of 0 to 63.
abbrev pub Alphabet : Type 0
Alphabet = map letter (up_from 0 64) ≡ codes "ABCDEFGHIJKLMNOPQRSTUVWXYZabcdefghijklmnopqrstuvwxyz0123456789+/"

-- Bytes and their texts: those of RFC 4648, section 10, and one more.
abbrev pub texts : List (List ℕ × List ℕ)
texts =
    (codes "", codes "")
    ∷ (codes "f", codes "Zg==")
    ∷ (codes "fo", codes "Zm8=")
    ∷ (codes "foo", codes "Zm9v")
    ∷ (codes "foob", codes "Zm9vYg==")
    ∷ (codes "fooba", codes "Zm9vYmE=")
    ∷ (codes "foobar", codes "Zm9vYmFy")
    ∷ (codes "reel7/", codes "cmVlbDcv")
    ∷ []

-- Each is encoded to its text, and its text is decoded to it.
abbrev pub WorkedTexts : Type 0
WorkedTexts = (map (λ e. encode e.0) texts ≡ map (λ e. e.1) texts) × (map (λ e. decode e.1) texts ≡ map (λ e. Some e.0) texts)
