-- A digest under way, and the law that it comes to SHA-256 of the pieces joined.
use Rattle.std.specs.Prelude.{◌≡◌, ℕ, ◌+◌, ◌*◌, ◌/◌, ◌%◌, ◌^◌, List, [], ◌++◌, length, drop}
use Rattle.digest.specs.Sha256.{initial, hashed, padding, output, sha256}

-- The hash value after the whole blocks so far, the bytes that wait for the rest of their block, and the number of all bytes
-- modulo 2 ^ 64.
pub record Running : Type 0 where
  pub value : List ℕ
  pub waiting : List ℕ
  pub count : ℕ

-- Before the first byte.
abbrev pub start : Running
start = record { value = initial; waiting = []; count = 0 }

-- After the bytes d: each block that they complete is hashed, the bytes after the last such block wait.
unfoldable pub absorb : Running → List ℕ → Running
absorb r d =
    let m = r.waiting ++ d in
    let n = length m / 64 in
    record { value = hashed r.value m n; waiting = drop (64 * n) m; count = (r.count + length d) % 2 ^ 64 }

-- The digest that it comes to: the padding goes in, and the hash value is the answer.
unfoldable pub finished : Running → List ℕ
finished r = output (absorb r (padding r.count)).value

-- The two laws: pieces, one after the other, are one piece; and what has absorbed a message from the start comes to its SHA-256.
abbrev pub Joins : Type 0
Joins = (r : Running) (a b : List ℕ) → absorb (absorb r a) b ≡ absorb r (a ++ b)

abbrev pub ComesToDigest : Type 0
ComesToDigest = (m : List ℕ) → finished (absorb start m) ≡ sha256 m
