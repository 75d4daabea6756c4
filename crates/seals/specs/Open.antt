-- The open seal: the body is the payload, the tag the first 12 bytes of HMAC-SHA-256 (RFC 2104) over header, session ID and body.
use Rattle.std.specs.Prelude.{ℕ, cond, List, ◌++◌, take, Some, None}
use Rattle.mac.specs.Hmac.{hmac}
use Rattle.message.specs.Meaning.{Sealing, Opening}
use Rattle.octets.specs.Equality.{same}

abbrev pub open_tag : List ℕ → List ℕ → List ℕ → List ℕ → List ℕ
open_tag key session h b = take 12 (hmac key ((h ++ session) ++ b))

abbrev pub open_sealing : List ℕ → List ℕ → Sealing
open_sealing key session h p = (p, open_tag key session h p)

abbrev pub open_opening : List ℕ → List ℕ → Opening
open_opening key session h b t = cond (same t (open_tag key session h b)) (Some b) None
