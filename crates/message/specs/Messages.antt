-- A message as bytes, written and received.
use Rattle.std.specs.Prelude.{ℕ, ◌+◌, ◌-◌, cond, List, ◌++◌, length, take, drop, Some, None, Ok, Err, Option, Result, nat_le}
use Rattle.kinds.specs.declared.kind.Kind.{Kind}
use Rattle.kinds.specs.declared.refusal.MessageRefusal.{MessageRefusal}
use Rattle.kinds.specs.declared.refusal.MessageRefusal.TheVariants.{Buffer, Payload, Unopened}
use Rattle.kinds.specs.Kinds.{code, trailer, found, numbered}
use Rattle.headers.specs.declared.header.Header.{Header}
use Rattle.headers.specs.Headers.{header_bytes, headed}
use Rattle.message.specs.declared.receiving.Admitted.{Admitted}
use Rattle.message.specs.declared.receiving.Received.{Received}
use Rattle.message.specs.declared.writing.Outgoing.{Outgoing}
use Rattle.message.specs.Meaning.{Sealing, Opening}
use Rattle.octets.specs.Fronts.{at_front}

-- The header of a message with a payload of p bytes and a trailer of t.
abbrev pub heading : ℕ → ℕ → List ℕ → ℕ → ℕ → Header
heading c n random p t = record { code = c; length = 28 + p + t; number = n; random = random }

-- A whole message: header, body, tag, trailer.
unfoldable pub message : Sealing → ℕ → ℕ → List ℕ → List ℕ → List ℕ → List ℕ
message s c n random payload after =
    let h = header_bytes (heading c n random (length payload) (length after)) in
    h ++ ((s h payload).0 ++ ((s h payload).1 ++ after))

-- What writing answers and leaves: refusal 3 for an output below 4,124 bytes, then 5 for what makes a longer message; else the
-- message stands at the output's front.
pub record Written : Type 0 where
  pub answer : Result ℕ MessageRefusal
  pub output : List ℕ

unfoldable pub written : Sealing → ℕ → ℕ → List ℕ → List ℕ → List ℕ → List ℕ → Written
written s c n random payload after old =
    let size = 28 + length payload + length after in
    cond (nat_le 4124 (length old))
    (cond (nat_le size 4124) (record { answer = Ok size; output = message s c n random payload after ++ drop size old })
    (record { answer = Err Payload; output = old }))
    (record { answer = Err Buffer; output = old })

-- The length of a message to be written, or refusal 5.
abbrev pub size : Outgoing → Result ℕ MessageRefusal
size o = let n = 28 + length o.payload.now + length o.after.now in cond (nat_le n 4124) (Ok n) (Err Payload)

-- The same of a message to be written.
abbrev pub sent : Sealing → Outgoing → List ℕ → Written
sent s o old = written s (code o.kind) o.number o.random o.payload.now o.after.now old

-- Kind, number and end of the tag of a message past refusals 7 to 11, in their order.
abbrev pub by_number : List ℕ → Header → Kind → Result ℕ MessageRefusal → Result Admitted MessageRefusal
by_number m h k (Err x) = Err x
by_number m h k (Ok n) = Ok (record { kind = k; number = n; end = length m - trailer h.code })

abbrev pub by_kind : ℕ → List ℕ → Header → Result Kind MessageRefusal → Result Admitted MessageRefusal
by_kind last m h (Err x) = Err x
by_kind last m h (Ok k) = by_number m h k (numbered k last h.number)

abbrev pub by_header : List Kind → ℕ → List ℕ → Result Header MessageRefusal → Result Admitted MessageRefusal
by_header expected last m (Err x) = Err x
by_header expected last m (Ok h) = by_kind last m h (found expected h.code)

unfoldable pub admitted : List Kind → ℕ → List ℕ → Result Admitted MessageRefusal
admitted expected last m = by_header expected last m (headed m)

-- What the bytes up to the end of the tag open to.
unfoldable pub opens : Opening → List ℕ → ℕ → Option (List ℕ)
opens o m end = o (take 16 m) (take (end - 28) (drop 16 m)) (take 12 (drop (end - 12) m))

-- A received message by what it says, or the first refusal of 3 and 7 to 12.
pub record Message : Type 0 where
  pub kind : Kind
  pub number : ℕ
  pub payload : List ℕ

abbrev pub by_opened : Admitted → Option (List ℕ) → Result Message MessageRefusal
by_opened a None = Err Unopened
by_opened a (Some p) = Ok (record { kind = a.kind; number = a.number; payload = p })

abbrev pub by_admitted : Opening → List ℕ → Result Admitted MessageRefusal → Result Message MessageRefusal
by_admitted o m (Err x) = Err x
by_admitted o m (Ok a) = by_opened a (opens o m a.end)

unfoldable pub received : Opening → List Kind → ℕ → List ℕ → List ℕ → Result Message MessageRefusal
received o expected last m old = cond (nat_le 4096 (length old)) (by_admitted o m (admitted expected last m)) (Err Buffer)

-- What receiving answers, and what it leaves in the text buffer.
abbrev pub told : Result Message MessageRefusal → Result Received MessageRefusal
told (Err x) = Err x
told (Ok x) = Ok (record { kind = x.kind; number = x.number; length = length x.payload })

abbrev pub text_after : Result Message MessageRefusal → List ℕ → List ℕ
text_after (Err x) old = old
text_after (Ok x) old = at_front x.payload old
