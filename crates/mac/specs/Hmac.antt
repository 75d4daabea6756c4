-- HMAC-SHA-256 (RFC 2104) on lists of bytes.
use Rattle.std.specs.Prelude.{ℕ, ◌-◌, cond, List, ◌++◌, map, length, replicate, bit_xor, nat_lt}
use Rattle.digest.specs.Sha256.{sha256}

-- A key as a block of 64 bytes: a key longer than a block goes in by its digest, and zeros fill up.
unfoldable pub key_block : List ℕ → List ℕ
key_block k = let short = cond (nat_lt 64 (length k)) (sha256 k) k in short ++ replicate (64 - length short) 0

-- Bytes, each xored with c.
abbrev pub masked : ℕ → List ℕ → List ℕ
masked c b = map (λ x. bit_xor x c) b

-- The key xored with ipad, and with opad.
unfoldable pub inner_key : List ℕ → List ℕ
inner_key k = masked 0x36 (key_block k)

unfoldable pub outer_key : List ℕ → List ℕ
outer_key k = masked 0x5c (key_block k)

-- The code of the message m under the key k.
unfoldable pub hmac : List ℕ → List ℕ → List ℕ
hmac k m = sha256 (outer_key k ++ sha256 (inner_key k ++ m))
