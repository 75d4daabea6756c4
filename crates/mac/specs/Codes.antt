-- An authentication code under way, and the law that it comes to HMAC-SHA-256 of the pieces joined.
use Rattle.std.specs.Prelude.{◌≡◌, ℕ, List, ◌++◌}
use Rattle.digest.specs.Running.{Running, start, absorb, finished}
use Rattle.digest.specs.Stands.{running}
use Rattle.mac.specs.declared.code.Hmac.{Hmac}
use Rattle.mac.specs.Hmac.{inner_key, outer_key, hmac}

-- The two digests under way.
pub record Code : Type 0 where
  pub inner : Running
  pub outer : Running

-- What an Hmac stands for.
abbrev pub coding : Hmac → Code
coding h = record { inner = running h.inner; outer = running h.outer }

-- Before the message, under the key k.
unfoldable pub keyed : List ℕ → Code
keyed k = record { inner = absorb start (inner_key k); outer = absorb start (outer_key k) }

-- After the bytes d of the message.
abbrev pub take_in : Code → List ℕ → Code
take_in c d = record { inner = absorb c.inner d; outer = c.outer }

-- The code that it comes to.
unfoldable pub code : Code → List ℕ
code c = finished (absorb c.outer (finished c.inner))

-- An Hmac under the key k has taken in the bytes m, from its making on.
abbrev pub Authenticates : Hmac → List ℕ → List ℕ → Type 0
Authenticates h k m = coding h ≡ take_in (keyed k) m

-- The two laws: pieces, one after the other, are one piece; and what has taken in a message under a key comes to its
-- HMAC-SHA-256.
abbrev pub TakesTwice : Type 0
TakesTwice = (c : Code) (a b : List ℕ) → take_in (take_in c a) b ≡ take_in c (a ++ b)

abbrev pub ComesToHmac : Type 0
ComesToHmac = (k m : List ℕ) → code (take_in (keyed k) m) ≡ hmac k m
