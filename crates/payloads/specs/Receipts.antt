-- The responses to log-ins and uploads, their texts, and what a text is read as.
use Rattle.std.specs.Prelude.{ℕ, ◌^◌, Bool, List, [], ◌∷◌, length, is_some, Ok, decimal, Result}
use Rattle.fields.specs.Cuts.{Piece, fields}
use Rattle.fields.specs.Takes.{and_then, taken, ended, must}
use Rattle.fields.specs.declared.refusal.WrongField.{WrongField}
use Rattle.numerals.specs.Decimals.{decimal_of}
use Rattle.numerals.specs.Digests.{digest_of}
use Rattle.payloads.specs.declared.log_in_response.LogInResponse.{LogInResponse}
use Rattle.payloads.specs.declared.upload_response.UploadResponse.{UploadResponse}

-- What a LogInResponse stands for: the 64 characters of its digest.
abbrev pub answered : LogInResponse → List ℕ
answered x = x.request.now

-- The only field of its text, and whether it is well-formed.
abbrev pub answer_fields : List ℕ → List (List ℕ)
answer_fields d = d ∷ []

abbrev pub formed_answer : List ℕ → Bool
formed_answer d = is_some (digest_of d)

-- A digest, of a text that ends at a place.
abbrev pub answer_from : ℕ → List Piece → Result (List ℕ) WrongField
answer_from end ps =
    and_then (taken end 1 ps) (λ digest.
    and_then (must 1 digest.0 (digest_of digest.0.bytes)) (λ _.
    and_then (ended 2 digest.1) (λ _. Ok digest.0.bytes)))

-- The response to a log-in that a text is, or its first wrong field.
abbrev pub answer_of : List ℕ → Result (List ℕ) WrongField
answer_of t = answer_from (length t) (fields t)

-- The response to an upload: the 64 characters of a digest, and a size.
pub record Receipt : Type 0 where
  pub digest : List ℕ
  pub size : ℕ

-- What an UploadResponse stands for.
abbrev pub meant : UploadResponse → Receipt
meant x = record { digest = x.digest.now; size = x.size }

-- The fields of its text, and whether they are well-formed.
abbrev pub receipt_fields : Receipt → List (List ℕ)
receipt_fields v = v.digest ∷ decimal v.size ∷ []

abbrev pub formed_receipt : Receipt → Bool
formed_receipt v = is_some (digest_of v.digest)

-- Digest and size, of a text that ends at a place.
abbrev pub receipt_from : ℕ → List Piece → Result Receipt WrongField
receipt_from end ps =
    and_then (taken end 1 ps) (λ digest.
    and_then (must 1 digest.0 (digest_of digest.0.bytes)) (λ _.
    and_then (taken end 2 digest.1) (λ size.
    and_then (must 2 size.0 (decimal_of (2 ^ 32) size.0.bytes)) (λ n.
    and_then (ended 3 size.1) (λ _. Ok (record { digest = digest.0.bytes; size = n }))))))

-- The response to an upload that a text is, or its first wrong field.
abbrev pub receipt_of : List ℕ → Result Receipt WrongField
receipt_of t = receipt_from (length t) (fields t)
