-- What is written is read back, and nothing else is read; worked examples.
use Rattle.std.specs.Prelude.{◌≡◌, ℕ, ◌^◌, ◌<◌, true, cond, List, [], ◌∷◌, ◌++◌, length, replicate, Ok, Err, codes, Result, nat_le}
use Rattle.fields.specs.Cuts.{joined, unbroken}
use Rattle.fields.specs.Takes.{wrong, writing}
use Rattle.fields.specs.declared.refusal.TextRefusal.{TextRefusal}
use Rattle.fields.specs.declared.refusal.TextRefusal.TheVariants.{Buffer}
use Rattle.payloads.specs.Credentials.{Credentials, credentials_fields, formed_credentials, credentials_of}
use Rattle.payloads.specs.Receipts.{answer_fields, formed_answer, answer_of, Receipt, receipt_fields, formed_receipt, receipt_of}
use Rattle.payloads.specs.Signals.{signal_text, signal_of}
use Rattle.payloads.specs.declared.go_ahead.GoAhead.{GoAhead}
use Rattle.payloads.specs.declared.go_ahead.GoAhead.TheVariants.{Ready, Cancel}

-- A log-in that has a text: its stamp is below 2^64, its user is one, its password has at most 64 bytes, and none of them is 10.
pub record RightCredentials (e : Credentials) : Type 0 where
  pub stamp : e.stamp < 2 ^ 64
  pub formed : formed_credentials e ≡ true
  pub unbroken : unbroken e.password ≡ true

-- What writing fields that make a text answers: the text's length where there is room for it, else refusal 3.
abbrev pub where_room : List (List ℕ) → ℕ → Result ℕ TextRefusal
where_room fs room = cond (nat_le (length (joined fs)) room) (Ok (length (joined fs))) (Err Buffer)

-- A log-in that has a text is written where there is room, its text is read as the log-in, and a text that is read is the text of its log-in.
pub record LogInsReadBack : Type 0 where
  pub written : (e : Credentials) (room : ℕ) → RightCredentials e → writing (credentials_fields e) (formed_credentials e) room ≡ where_room (credentials_fields e) room
  pub back : (e : Credentials) → RightCredentials e → credentials_of (joined (credentials_fields e)) ≡ Ok e
  pub only : (t : List ℕ) (e : Credentials) → credentials_of t ≡ Ok e → RightCredentials e × (t ≡ joined (credentials_fields e))

-- The same of a response to a log-in, which is a digest.
pub record AnswersReadBack : Type 0 where
  pub written : (d : List ℕ) (room : ℕ) → formed_answer d ≡ true → writing (answer_fields d) (formed_answer d) room ≡ where_room (answer_fields d) room
  pub back : (d : List ℕ) → formed_answer d ≡ true → answer_of (joined (answer_fields d)) ≡ Ok d
  pub only : (t d : List ℕ) → answer_of t ≡ Ok d → (formed_answer d ≡ true) × (t ≡ joined (answer_fields d))

-- A response to an upload that has a text: its digest is one, and its size is below 2^32.
pub record RightReceipt (v : Receipt) : Type 0 where
  pub formed : formed_receipt v ≡ true
  pub size : v.size < 2 ^ 32

-- The same of a response to an upload.
pub record ReceiptsReadBack : Type 0 where
  pub written : (v : Receipt) (room : ℕ) → RightReceipt v → writing (receipt_fields v) (formed_receipt v) room ≡ where_room (receipt_fields v) room
  pub back : (v : Receipt) → RightReceipt v → receipt_of (joined (receipt_fields v)) ≡ Ok v
  pub only : (t : List ℕ) (v : Receipt) → receipt_of t ≡ Ok v → RightReceipt v × (t ≡ joined (receipt_fields v))

-- The same of a go-ahead.
pub record SignalsReadBack : Type 0 where
  pub written : (g : GoAhead) (room : ℕ) → writing (signal_text g ∷ []) true room ≡ where_room (signal_text g ∷ []) room
  pub back : (g : GoAhead) → signal_of (joined (signal_text g ∷ [])) ≡ Ok g
  pub only : (t : List ℕ) (g : GoAhead) → signal_of t ≡ Ok g → t ≡ joined (signal_text g ∷ [])

-- A log-in by its parts.
abbrev pub credentials_record : ℕ → List ℕ → List ℕ → Credentials
credentials_record n u p = record { stamp = n; user = u; password = p }

-- A response to an upload by its parts.
abbrev pub receipt_record : List ℕ → ℕ → Receipt
receipt_record d n = record { digest = d; size = n }

-- Worked examples, right and wrong.
pub record Worked : Type 0 where
  pub log_in : credentials_of (codes "12\nal\npw\n") ≡ Ok (credentials_record 12 (codes "al") (codes "pw"))
  pub no_password : credentials_of (codes "12\nal\n\n") ≡ Ok (credentials_record 12 (codes "al") [])
  pub empty : credentials_of (codes "") ≡ Err (wrong 1 0)
  pub stamp_open : credentials_of (codes "12") ≡ Err (wrong 1 0)
  pub stamp_only : credentials_of (codes "12\n") ≡ Err (wrong 2 3)
  pub user_open : credentials_of (codes "12\nal") ≡ Err (wrong 2 3)
  pub user_only : credentials_of (codes "12\nal\n") ≡ Err (wrong 3 6)
  pub password_open : credentials_of (codes "12\nal\npw") ≡ Err (wrong 3 6)
  pub surplus : credentials_of (codes "12\nal\npw\nx") ≡ Err (wrong 4 9)
  pub surplus_empty : credentials_of (codes "12\nal\npw\n\n") ≡ Err (wrong 4 9)
  pub leading_zero : credentials_of (codes "012\nal\npw\n") ≡ Err (wrong 1 0)
  pub user_of_17 : credentials_of (codes "12\nabcdefghijklmno17\npw\n") ≡ Err (wrong 2 3)
  pub password_of_64 : credentials_of (codes "12\nal\n" ++ (replicate 64 112 ++ codes "\n")) ≡ Ok (credentials_record 12 (codes "al") (replicate 64 112))
  pub password_of_65 : credentials_of (codes "12\nal\n" ++ (replicate 65 112 ++ codes "\n")) ≡ Err (wrong 3 6)
  pub ready : signal_of (codes "ready") ≡ Ok Ready
  pub cancel : signal_of (codes "cancel") ≡ Ok Cancel
  pub other_word : signal_of (codes "readily") ≡ Err (wrong 1 0)
  pub word_surplus : signal_of (codes "ready\n") ≡ Err (wrong 2 6)
  pub short_digest : answer_of (codes "ff") ≡ Err (wrong 1 0)
  pub digest : answer_of (codes "00112233445566778899aabbccddeeff00112233445566778899aabbccddeeff") ≡ Ok (codes "00112233445566778899aabbccddeeff00112233445566778899aabbccddeeff")
  pub digest_surplus : answer_of (codes "00112233445566778899aabbccddeeff00112233445566778899aabbccddeeff\n") ≡ Err (wrong 2 65)
  pub receipt : receipt_of (codes "00112233445566778899aabbccddeeff00112233445566778899aabbccddeeff\n42") ≡ Ok (receipt_record (codes "00112233445566778899aabbccddeeff00112233445566778899aabbccddeeff") 42)
  pub no_size : receipt_of (codes "00112233445566778899aabbccddeeff00112233445566778899aabbccddeeff") ≡ Err (wrong 2 64)
  pub large_size : receipt_of (codes "00112233445566778899aabbccddeeff00112233445566778899aabbccddeeff\n4294967296") ≡ Err (wrong 2 65)
  pub receipt_surplus : receipt_of (codes "00112233445566778899aabbccddeeff00112233445566778899aabbccddeeff\n42\n") ≡ Err (wrong 3 68)
