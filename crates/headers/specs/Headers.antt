-- The 16 bytes that begin a message.
use Rattle.std.specs.Prelude.{◌≡◌, ℕ, ◌+◌, ◌*◌, ◌/◌, ◌%◌, ◌^◌, ◌<◌, Bool, true, cond, ◌&&◌, ◌||◌, List, [], ◌∷◌, ◌++◌, length, take, Ok, Err, Result, ◌==◌, nat_le, nat_lt, slice_index}
use Rattle.kinds.specs.declared.refusal.MessageRefusal.{MessageRefusal}
use Rattle.kinds.specs.declared.refusal.MessageRefusal.TheVariants.{Length, Version, Reserved}
use Rattle.headers.specs.declared.header.Header.{Header}

-- The number in two bytes of a message, big-endian, and the two bytes of a number.
abbrev pub field : List ℕ → ℕ → ℕ
field m i = slice_index m i * 256 + slice_index m (i + 1)

abbrev pub high : ℕ → ℕ
high n = n / 256 % 256

abbrev pub low : ℕ → ℕ
low n = n % 256

-- Version, type, length, number, random bytes, and two zeros.
abbrev pub header_bytes : Header → List ℕ
header_bytes h =
    1 ∷ 1 ∷ high h.code ∷ low h.code ∷ high h.length ∷ low h.length ∷ high h.number ∷ low h.number ∷
    slice_index h.random 0 ∷ slice_index h.random 1 ∷ slice_index h.random 2 ∷ slice_index h.random 3 ∷ slice_index h.random 4 ∷ slice_index h.random 5 ∷
    0 ∷ 0 ∷ []

abbrev pub header_of : List ℕ → Header
header_of m =
    record {
      code = field m 2;
      length = field m 4;
      number = field m 6;
      random = slice_index m 8 ∷ slice_index m 9 ∷ slice_index m 10 ∷ slice_index m 11 ∷ slice_index m 12 ∷ slice_index m 13 ∷ [];
    }

-- A message of that many bytes may have that type and that length field: 28 to 4,124 bytes, a log-in request at least 135, and as
-- many as the field says.
abbrev pub length_fits : ℕ → ℕ → ℕ → Bool
length_fits size code told = nat_le 28 size && (nat_le size 4124 && (told == size && (nat_lt 0 code || nat_le 135 size)))

abbrev pub right_length : List ℕ → Bool
right_length m = length_fits (length m) (field m 2) (field m 4)

abbrev pub right_version : List ℕ → Bool
right_version m = slice_index m 0 == 1 && slice_index m 1 == 1

abbrev pub reserved_zero : List ℕ → Bool
reserved_zero m = slice_index m 14 == 0 && slice_index m 15 == 0

-- A message's header, or refusal 7, 8 or 9, in this order.
abbrev pub headed : List ℕ → Result Header MessageRefusal
headed m =
    cond (right_length m) (cond (right_version m) (cond (reserved_zero m) (Ok (header_of m)) (Err Reserved)) (Err Version)) (Err Length)

-- A header whose numbers fit two bytes, with six random bytes.
pub record Sized (h : Header) : Type 0 where
  pub code : h.code < 2 ^ 16
  pub told : h.length < 2 ^ 16
  pub number : h.number < 2 ^ 16
  pub random : length h.random ≡ 6

-- Reading what was written gives it back, where the message is as long as the header says and may be.
abbrev pub ReadsWhatWasWritten : Type 0
ReadsWhatWasWritten =
    (h : Header) (rest : List ℕ) → Sized h → length_fits (16 + length rest) h.code h.length ≡ true → headed (header_bytes h ++ rest) ≡ Ok h

-- A header that is read and written again is the same bytes.
abbrev pub WritesWhatWasRead : Type 0
WritesWhatWasRead =
    (h : Header) (m : List ℕ) → ((i : ℕ) → slice_index m i < 256) → headed m ≡ Ok h → header_bytes h ≡ take 16 m
