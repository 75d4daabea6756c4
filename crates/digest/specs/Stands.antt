-- What a hasher stands for.
use Rattle.std.specs.Prelude.{◌≡◌, ℕ, ◌%◌, List, take}
use Rattle.digest.specs.declared.hasher.Hasher.{Hasher}
use Rattle.digest.specs.Running.{Running, start, absorb}

-- Its state is the hash value, its buffer begins with the bytes that wait, and its total is the count.
abbrev pub running : Hasher → Running
running h = record { value = h.state; waiting = take (h.total % 64) h.buffer; count = h.total }

-- It has absorbed the bytes m, from its making on.
abbrev pub Absorbed : Hasher → List ℕ → Type 0
Absorbed h m = running h ≡ absorb start m
