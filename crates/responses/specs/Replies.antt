-- Responses, their texts, and what a text is read as.
use Rattle.std.specs.Prelude.{◌≡◌, ℕ, ◌^◌, ◌<◌, Bool, true, false, ◌&&◌, List, [], ◌∷◌, length, is_some, Some, None, Ok, decimal, Option, Result}
use Rattle.fields.specs.Cuts.{Piece, fields, joined, all_unbroken}
use Rattle.fields.specs.Takes.{place, shown, and_then, must, taken, ended}
use Rattle.fields.specs.declared.field.Place.{Place}
use Rattle.fields.specs.declared.refusal.WrongField.{WrongField}
use Rattle.numerals.specs.Decimals.{decimal_of}
use Rattle.numerals.specs.Digests.{digest_of}
use Rattle.base64_text.specs.Base64.{decode}
use Rattle.words.specs.declared.word.Word.{Word}
use Rattle.words.specs.declared.status.Status.{Status}
use Rattle.words.specs.declared.status.Tells.{Tells}
use Rattle.words.specs.declared.status.Tells.TheVariants as t
use Rattle.words.specs.Statuses.{status_text, granting, refusing, tells, granted}
use Rattle.words.specs.Words.{word_text, word_of}
use Rattle.responses.specs.declared.response.Outcome.{Outcome}
use Rattle.responses.specs.declared.response.Outcome.TheVariants as o
use Rattle.responses.specs.declared.response.Response.{Response}
use Rattle.responses.specs.declared.response.Places.{Places}
use Rattle.responses.specs.declared.response.Results.{Results}
use Rattle.responses.specs.declared.response.PlacedResponse.{PlacedResponse}

-- What a response says after its status: nothing, a path, a listing, a file's size and digest, or why the command was refused.
pub data Said : Type 0 where
  done : Said
  path : List ℕ → Said
  listing : List ℕ → Said
  file : ℕ → List ℕ → Said
  refused : List ℕ → Said

-- A response by the bytes of its fields, wherever they lie.
pub record Reply : Type 0 where
  pub word : Word
  pub request : List ℕ
  pub said : Said

-- What an Outcome and a Response stand for.
abbrev pub saying : Outcome → Said
saying o.Done = done
saying (o.Path x) = path x.now
saying (o.Listing x) = listing x.now
saying (o.File n d) = file n d.now
saying (o.Refused x) = refused x.now

abbrev pub meant : Response → Reply
meant r = record { word = r.word; request = r.request.now; said = saying r.outcome }

-- The status of a response.
abbrev pub status_of : Word → Said → Status
status_of w done = granting w
status_of w (path x) = granting w
status_of w (listing x) = granting w
status_of w (file n d) = granting w
status_of w (refused x) = refusing w

-- What is said, as fields.
abbrev pub results : Said → List (List ℕ)
results done = []
results (path x) = x ∷ []
results (listing x) = x ∷ []
results (file n d) = decimal n ∷ d ∷ []
results (refused x) = x ∷ []

-- What is said suits that, a listing in canonical Base64 and a digest in 64 characters; any command may be refused.
abbrev pub suits : Tells → Said → Bool
suits t.Nothing done = true
suits t.Nothing (path x) = false
suits t.Nothing (listing x) = false
suits t.Nothing (file n d) = false
suits t.Nothing (refused x) = true
suits t.Path done = false
suits t.Path (path x) = true
suits t.Path (listing x) = false
suits t.Path (file n d) = false
suits t.Path (refused x) = true
suits t.Listing done = false
suits t.Listing (path x) = false
suits t.Listing (listing x) = is_some (decode x)
suits t.Listing (file n d) = false
suits t.Listing (refused x) = true
suits t.File done = false
suits t.File (path x) = false
suits t.File (listing x) = false
suits t.File (file n d) = is_some (digest_of d)
suits t.File (refused x) = true

-- A response's fields: word, request digest, status, what is said; and whether they are well-formed.
abbrev pub reply_fields : Reply → List (List ℕ)
reply_fields r = word_text r.word ∷ r.request ∷ status_text (status_of r.word r.said) ∷ results r.said

abbrev pub formed : Reply → Bool
formed r = is_some (digest_of r.request) && suits (tells r.word) r.said

-- What is said, with the places of its fields.
pub record Told : Type 0 where
  pub said : Said
  pub first : Option Place
  pub second : Option Place

-- What Results stand for.
abbrev pub told : Results → Told
told r = record { said = saying r.outcome; first = r.first; second = r.second }

-- What one field says.
abbrev pub one_told : Said → Piece → Told
one_told s f = record { said = s; first = Some (place f); second = None }

-- One field in the fourth place, and no more.
abbrev pub one_field : ℕ → List Piece → Result Piece WrongField
one_field end ps = and_then (taken end 4 ps) (λ f. and_then (ended 5 f.1) (λ _. Ok f.0))

abbrev pub path_told : ℕ → List Piece → Result Told WrongField
path_told end ps = and_then (one_field end ps) (λ f. Ok (one_told (path f.bytes) f))

abbrev pub refusal_told : ℕ → List Piece → Result Told WrongField
refusal_told end ps = and_then (one_field end ps) (λ f. Ok (one_told (refused f.bytes) f))

-- A listing in canonical Base64.
abbrev pub listing_told : ℕ → List Piece → Result Told WrongField
listing_told end ps =
    and_then (taken end 4 ps) (λ f.
    and_then (must 4 f.0 (decode f.0.bytes)) (λ _.
    and_then (ended 5 f.1) (λ _. Ok (one_told (listing f.0.bytes) f.0))))

-- Size and digest of a file.
abbrev pub file_told : ℕ → List Piece → Result Told WrongField
file_told end ps =
    and_then (taken end 4 ps) (λ size.
    and_then (must 4 size.0 (decimal_of (2 ^ 32) size.0.bytes)) (λ n.
    and_then (taken end 5 size.1) (λ digest.
    and_then (must 5 digest.0 (digest_of digest.0.bytes)) (λ _.
    and_then (ended 6 digest.1) (λ _.
    Ok (record { said = file n digest.0.bytes; first = Some (place size.0); second = Some (place digest.0) }))))))

-- What is told where the command was granted.
abbrev pub granted_told : Tells → ℕ → List Piece → Result Told WrongField
granted_told t.Nothing end ps = and_then (ended 4 ps) (λ _. Ok (record { said = done; first = None; second = None }))
granted_told t.Path end ps = path_told end ps
granted_told t.Listing end ps = listing_told end ps
granted_told t.File end ps = file_told end ps

-- What is told after that.
abbrev pub told_of : Bool → Word → ℕ → List Piece → Result Told WrongField
told_of true w end ps = granted_told (tells w) end ps
told_of false w end ps = refusal_told end ps

-- A response with the places of its fields.
pub record PlacedReply : Type 0 where
  pub reply : Reply
  pub places : Places

-- What a PlacedResponse stands for.
abbrev pub placed_meant : PlacedResponse → PlacedReply
placed_meant r = record { reply = meant r.response; places = r.places }

-- The response that a text is, or its first wrong field.
abbrev pub reply_from : ℕ → List Piece → Result PlacedReply WrongField
reply_from end ps =
    and_then (taken end 1 ps) (λ first.
    and_then (must 1 first.0 (word_of first.0.bytes)) (λ w.
    and_then (taken end 2 first.1) (λ request.
    and_then (must 2 request.0 (digest_of request.0.bytes)) (λ _.
    and_then (taken end 3 request.1) (λ status.
    and_then (must 3 status.0 (granted w status.0.bytes)) (λ g.
    and_then (told_of g w end status.1) (λ told.
    Ok (record {
      reply = record { word = w; request = request.0.bytes; said = told.said };
      places = record { word = place first.0; request = place request.0; status = place status.0; first = told.first; second = told.second };
    }))))))))

abbrev pub reply_of : List ℕ → Result PlacedReply WrongField
reply_of t = reply_from (length t) (fields t)

-- The size that is told; 0 where none is.
abbrev pub size_said : Said → ℕ
size_said done = 0
size_said (path x) = 0
size_said (listing x) = 0
size_said (file n d) = n
size_said (refused x) = 0

-- A response that has a text: what is said suits the word, no byte 10 in a path or cause, digests of 64 characters, a size below 2^32.
pub record Writable (r : Reply) : Type 0 where
  pub well : formed r ≡ true
  pub whole : all_unbroken (reply_fields r) ≡ true
  pub small : size_said r.said < 2 ^ 32

-- Exactly the texts of responses are read as responses: a response's text as that response, and a text as the response whose text it is.
pub record ResponsesReadBack : Type 0 where
  pub back : (r : Reply) → Writable r → shown (λ p. p.reply) (reply_of (joined (reply_fields r))) ≡ Ok r
  pub only : (t : List ℕ) (p : PlacedReply) → reply_of t ≡ Ok p → Writable p.reply × (t ≡ joined (reply_fields p.reply))
