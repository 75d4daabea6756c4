-- What is written is read back.
use Rattle.std.specs.Prelude.{◌≡◌, ℕ, ◌+◌, ◌^◌, ◌<◌, ◌≤◌, true, List, length, Ok, Result}
use Rattle.kinds.specs.declared.kind.Kind.{Kind}
use Rattle.kinds.specs.declared.refusal.MessageRefusal.{MessageRefusal}
use Rattle.kinds.specs.Kinds.{code, trailer, found, acceptable}
use Rattle.message.specs.declared.receiving.Received.{Received}
use Rattle.message.specs.Meaning.{Sealing}
use Rattle.octets.specs.Fronts.{at_front}
use Rattle.message.specs.Messages.{message}

-- A message of kind k and number n is expected and acceptable, its payload fits one message, what follows its tag is as long as its
-- kind asks, and a text buffer is large enough.
pub record Proper (expected : List Kind) (last : ℕ) (k : Kind) (n : ℕ) (random payload after text : List ℕ) : Type 0 where
  pub awaited : found expected (code k) ≡ Ok k
  pub next : acceptable k last n ≡ true
  pub number : n < 2 ^ 16
  pub six : length random ≡ 6
  pub follows : length after ≡ trailer (code k)
  pub one : 28 + length payload + length after ≤ 4124
  pub room : 4096 ≤ length text

-- A message that was so written under the same seal gives kind, number and payload.
abbrev pub ReadsBack : Sealing → List Kind → ℕ → List ℕ → List ℕ → Result Received MessageRefusal → List ℕ → Type 0
ReadsBack s expected last m old r text =
    (k : Kind) (n : ℕ) (random payload after : List ℕ) → Proper expected last k n random payload after old → m ≡ message s (code k) n random payload after
    → (r ≡ Ok (record { kind = k; number = n; length = length payload })) × (text ≡ at_front payload old)
