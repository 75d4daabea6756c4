-- Words, and the expansion of a key of 8 words (FIPS 197, section 5.2). A word is a number below 2 ^ 32, its first byte the highest.
use Rattle.std.specs.Prelude.{ℕ, zero, suc, ◌+◌, ◌-◌, ◌*◌, ◌/◌, ◌%◌, ◌^◌, cond, List, [], ◌∷◌, ◌++◌, length, ◌==◌, bit_xor, slice_index}
use Rattle.sbox.specs.Substitution.{sub_byte}

unfoldable pub word : ℕ → ℕ → ℕ → ℕ → ℕ
word a b c d = a * 16777216 + b * 65536 + c * 256 + d

unfoldable pub byte0 : ℕ → ℕ
byte0 w = w / 16777216 % 256

unfoldable pub byte1 : ℕ → ℕ
byte1 w = w / 65536 % 256

unfoldable pub byte2 : ℕ → ℕ
byte2 w = w / 256 % 256

unfoldable pub byte3 : ℕ → ℕ
byte3 w = w % 256

unfoldable pub sub_word : ℕ → ℕ
sub_word w = word (sub_byte (byte0 w)) (sub_byte (byte1 w)) (sub_byte (byte2 w)) (sub_byte (byte3 w))

unfoldable pub rot_word : ℕ → ℕ
rot_word w = word (byte1 w) (byte2 w) (byte3 w) (byte0 w)

-- The round constant x^(j-1) in a word's first byte; j is at most 7, so that no power reaches degree 8.
unfoldable pub rcon : ℕ → ℕ
rcon j = 2 ^ (23 + j)

-- What is added to the word 8 places back to give word i, where t is word i - 1.
unfoldable pub temp : ℕ → ℕ → ℕ
temp i t = cond (i % 8 == 0) (bit_xor (sub_word (rot_word t)) (rcon (i / 8))) (cond (i % 8 == 4) (sub_word t) t)

-- One word more, after the words so far.
unfoldable pub grown : List ℕ → List ℕ
grown ws = ws ++ bit_xor (slice_index ws (length ws - 8)) (temp (length ws) (slice_index ws (length ws - 1))) ∷ []

unfoldable pub expand : ℕ → List ℕ → List ℕ
expand zero ws = ws
expand (suc n) ws = grown (expand n ws)

-- The first n words of a key of bytes.
unfoldable pub key_words : ℕ → List ℕ → List ℕ
key_words zero key = []
key_words (suc n) key =
    key_words n key ++ word (slice_index key (4 * n)) (slice_index key (4 * n + 1)) (slice_index key (4 * n + 2)) (slice_index key (4 * n + 3)) ∷ []

-- The 60 words of a key of 32 bytes.
unfoldable pub schedule : List ℕ → List ℕ
schedule key = expand 52 (key_words 8 key)
