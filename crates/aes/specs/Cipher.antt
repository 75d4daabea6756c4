-- The cipher of FIPS 197, section 5.1, with 14 rounds. A state is four words, its columns; a block is a number below 2 ^ 128, its
-- first byte the highest.
use Rattle.std.specs.Prelude.{ℕ, zero, suc, ◌+◌, ◌*◌, ◌/◌, ◌%◌, ◌^◌, List, bit_xor, slice_index}
use Rattle.aes.specs.declared.state.State.{State}
use Rattle.sbox.specs.Field.{times}
use Rattle.aes.specs.Words.{word, byte0, byte1, byte2, byte3, sub_word, schedule}

unfoldable pub sub_bytes : State → State
sub_bytes s = record { c0 = sub_word s.c0; c1 = sub_word s.c1; c2 = sub_word s.c2; c3 = sub_word s.c3 }

-- Row r moves r places to the left: the column that takes a byte from each of four.
unfoldable pub shifted : ℕ → ℕ → ℕ → ℕ → ℕ
shifted a b c d = word (byte0 a) (byte1 b) (byte2 c) (byte3 d)

unfoldable pub shift_rows : State → State
shift_rows s =
    record {
      c0 = shifted s.c0 s.c1 s.c2 s.c3;
      c1 = shifted s.c1 s.c2 s.c3 s.c0;
      c2 = shifted s.c2 s.c3 s.c0 s.c1;
      c3 = shifted s.c3 s.c0 s.c1 s.c2;
    }

unfoldable pub xor4 : ℕ → ℕ → ℕ → ℕ → ℕ
xor4 a b c d = bit_xor (bit_xor (bit_xor a b) c) d

-- A column times a fixed polynomial.
unfoldable pub mix_bytes : ℕ → ℕ → ℕ → ℕ → ℕ
mix_bytes a b c d =
    word
    (xor4 (times 2 a) (times 3 b) c d)
    (xor4 a (times 2 b) (times 3 c) d)
    (xor4 a b (times 2 c) (times 3 d))
    (xor4 (times 3 a) b c (times 2 d))

unfoldable pub mix_column : ℕ → ℕ
mix_column w = mix_bytes (byte0 w) (byte1 w) (byte2 w) (byte3 w)

unfoldable pub mix_columns : State → State
mix_columns s = record { c0 = mix_column s.c0; c1 = mix_column s.c1; c2 = mix_column s.c2; c3 = mix_column s.c3 }

unfoldable pub add_round_key : List ℕ → ℕ → State → State
add_round_key ws r s =
    record {
      c0 = bit_xor s.c0 (slice_index ws (4 * r));
      c1 = bit_xor s.c1 (slice_index ws (4 * r + 1));
      c2 = bit_xor s.c2 (slice_index ws (4 * r + 2));
      c3 = bit_xor s.c3 (slice_index ws (4 * r + 3));
    }

unfoldable pub one_round : List ℕ → ℕ → State → State
one_round ws r s = add_round_key ws r (mix_columns (shift_rows (sub_bytes s)))

-- Rounds 1 to n.
unfoldable pub rounds : List ℕ → ℕ → State → State
rounds ws zero s = s
rounds ws (suc n) s = one_round ws (suc n) (rounds ws n s)

unfoldable pub last_round : List ℕ → State → State
last_round ws s = add_round_key ws 14 (shift_rows (sub_bytes s))

-- A block as a state, and back.
unfoldable pub load : ℕ → State
load b = record { c0 = b / 2 ^ 96 % 2 ^ 32; c1 = b / 2 ^ 64 % 2 ^ 32; c2 = b / 2 ^ 32 % 2 ^ 32; c3 = b % 2 ^ 32 }

unfoldable pub store : State → ℕ
store s = s.c0 * 2 ^ 96 + s.c1 * 2 ^ 64 + s.c2 * 2 ^ 32 + s.c3

-- The block that the cipher gives, under the words of an expanded key, and under a key of 32 bytes.
abbrev pub cipher : List ℕ → ℕ → ℕ
cipher ws b = store (last_round ws (rounds ws 13 (add_round_key ws 0 (load b))))

abbrev pub aes256 : List ℕ → ℕ → ℕ
aes256 key = cipher (schedule key)
