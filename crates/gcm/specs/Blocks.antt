-- Bytes and blocks: a block is a number below 2 ^ 128, its first byte the highest.
use Rattle.std.specs.Prelude.{ℕ, ◌+◌, ◌*◌, ◌/◌, ◌%◌, ◌^◌, List, [], ◌∷◌, drop, slice_index}

-- The 16 bytes of a block.
unfoldable pub block_bytes : ℕ → List ℕ
block_bytes b =
    b / 2 ^ 120 % 256 ∷ b / 2 ^ 112 % 256 ∷ b / 2 ^ 104 % 256 ∷ b / 2 ^ 96 % 256 ∷
    b / 2 ^ 88 % 256 ∷ b / 2 ^ 80 % 256 ∷ b / 2 ^ 72 % 256 ∷ b / 2 ^ 64 % 256 ∷
    b / 2 ^ 56 % 256 ∷ b / 2 ^ 48 % 256 ∷ b / 2 ^ 40 % 256 ∷ b / 2 ^ 32 % 256 ∷
    b / 2 ^ 24 % 256 ∷ b / 2 ^ 16 % 256 ∷ b / 2 ^ 8 % 256 ∷ b % 256 ∷ []

-- The number of a list's first 16 bytes, with zeros past its end.
unfoldable pub number : List ℕ → ℕ
number xs =
    slice_index xs 0 * 2 ^ 120 + slice_index xs 1 * 2 ^ 112 + slice_index xs 2 * 2 ^ 104 + slice_index xs 3 * 2 ^ 96 +
    slice_index xs 4 * 2 ^ 88 + slice_index xs 5 * 2 ^ 80 + slice_index xs 6 * 2 ^ 72 + slice_index xs 7 * 2 ^ 64 +
    slice_index xs 8 * 2 ^ 56 + slice_index xs 9 * 2 ^ 48 + slice_index xs 10 * 2 ^ 40 + slice_index xs 11 * 2 ^ 32 +
    slice_index xs 12 * 2 ^ 24 + slice_index xs 13 * 2 ^ 16 + slice_index xs 14 * 2 ^ 8 + slice_index xs 15

-- Block i of a list of bytes, the last one padded with zeros.
unfoldable pub block_at : List ℕ → ℕ → ℕ
block_at xs i = number (drop (16 * i) xs)
