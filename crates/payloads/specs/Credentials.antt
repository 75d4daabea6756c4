-- Log-ins, their texts, and what a text is read as.
use Rattle.std.specs.Prelude.{ℕ, ◌^◌, Bool, ◌&&◌, List, [], ◌∷◌, length, Ok, decimal, Result, nat_le}
use Rattle.fields.specs.Cuts.{Piece, fields}
use Rattle.fields.specs.Takes.{and_then, taken_closed, ended_closed, must, pass}
use Rattle.fields.specs.declared.refusal.WrongField.{WrongField}
use Rattle.names.specs.Names.{user as is_user}
use Rattle.numerals.specs.Decimals.{decimal_of}
use Rattle.payloads.specs.declared.log_in.LogIn.{LogIn}

-- A log-in by its stamp and its bytes, wherever they lie.
pub record Credentials : Type 0 where
  pub stamp : ℕ
  pub user : List ℕ
  pub password : List ℕ

-- What a LogIn stands for.
abbrev pub meant : LogIn → Credentials
meant x = record { stamp = x.stamp; user = x.user.now; password = x.password.now }

-- The fields of its text: stamp, user and password, and an empty one, so that byte 10 follows each of the three.
abbrev pub credentials_fields : Credentials → List (List ℕ)
credentials_fields e = decimal e.stamp ∷ e.user ∷ e.password ∷ [] ∷ []

-- A password has at most 64 bytes.
abbrev pub short : List ℕ → Bool
short t = nat_le (length t) 64

-- Whether user and password are well-formed.
abbrev pub formed_credentials : Credentials → Bool
formed_credentials e = is_user e.user && short e.password

-- Stamp, user and password, of a text that ends at a place.
abbrev pub credentials_from : ℕ → List Piece → Result Credentials WrongField
credentials_from end ps =
    and_then (taken_closed end 1 ps) (λ stamp.
    and_then (must 1 stamp.0 (decimal_of (2 ^ 64) stamp.0.bytes)) (λ n.
    and_then (taken_closed end 2 stamp.1) (λ user.
    and_then (pass 2 user.0 (is_user user.0.bytes)) (λ _.
    and_then (taken_closed end 3 user.1) (λ password.
    and_then (pass 3 password.0 (short password.0.bytes)) (λ _.
    and_then (ended_closed end 4 password.1) (λ _. Ok (record { stamp = n; user = user.0.bytes; password = password.0.bytes }))))))))

-- The log-in that a text is, or its first wrong field.
abbrev pub credentials_of : List ℕ → Result Credentials WrongField
credentials_of t = credentials_from (length t) (fields t)
