-- The kinds of messages, their codes, and the checks of a received message's type and number.
use Rattle.std.specs.Prelude.{◌≡◌, ℕ, Bool, cond, not, ◌&&◌, ◌||◌, List, Some, None, Ok, Err, Option, Result, MatchOption, ◌==◌, ◌≢◌, nat_lt}
use Rattle.std.specs.List.{find}
use Rattle.std.specs.Option.{ok_or}
use Rattle.kinds.specs.declared.kind.Kind.{Kind}
use Rattle.kinds.specs.declared.kind.Kind.TheVariants.{LogIn, LogInResponse, Command, Response, UploadFragment, LastUploadFragment, UploadResponse, GoAhead, DownloadFragment, LastDownloadFragment}
use Rattle.kinds.specs.declared.kind.UnknownKind.{UnknownKind}
use Rattle.kinds.specs.declared.kind.End.{End}
use Rattle.kinds.specs.declared.kind.End.TheVariants.{Client, Server}
use Rattle.kinds.specs.declared.refusal.MessageRefusal.{MessageRefusal}
use Rattle.kinds.specs.declared.refusal.MessageRefusal.TheVariants.{Unexpected, Number}

-- The code of a kind in the header's type field.
abbrev pub code : Kind → ℕ
code LogIn = 0x0000
code LogInResponse = 0x0010
code Command = 0x0100
code Response = 0x0110
code UploadFragment = 0x0200
code LastUploadFragment = 0x0201
code UploadResponse = 0x0210
code GoAhead = 0x0300
code DownloadFragment = 0x0310
code LastDownloadFragment = 0x0311

-- The kind of a code; any other code is of none.
abbrev pub kind_of : ℕ → Option Kind
kind_of c =
    cond (c == 0x0000) (Some LogIn)
    (cond (c == 0x0010) (Some LogInResponse)
    (cond (c == 0x0100) (Some Command)
    (cond (c == 0x0110) (Some Response)
    (cond (c == 0x0200) (Some UploadFragment)
    (cond (c == 0x0201) (Some LastUploadFragment)
    (cond (c == 0x0210) (Some UploadResponse)
    (cond (c == 0x0300) (Some GoAhead)
    (cond (c == 0x0310) (Some DownloadFragment)
    (cond (c == 0x0311) (Some LastDownloadFragment) None)))))))))

abbrev pub kind_or_unknown : ℕ → Result Kind UnknownKind
kind_or_unknown c = ok_or (kind_of c) (record { 0 = c })

-- Each kind's code is of that kind, and a code that is of a kind is that kind's.
abbrev pub CodesTellKinds : Type 0
CodesTellKinds = ((k : Kind) → kind_of (code k) ≡ Some k) × ((c : ℕ) → MatchOption (kind_of c) ((k : Kind) → code k ≢ c) (λ k. code k ≡ c))

-- The end that writes a kind.
abbrev pub writer : Kind → End
writer LogIn = Client
writer LogInResponse = Server
writer Command = Client
writer Response = Server
writer UploadFragment = Client
writer LastUploadFragment = Client
writer UploadResponse = Server
writer GoAhead = Client
writer DownloadFragment = Server
writer LastDownloadFragment = Server

-- A log-in request or response.
abbrev pub opening : Kind → Bool
opening k = code k == 0x0000 || code k == 0x0010

-- The bytes after the tag: the public key and the session ID of a log-in request.
abbrev pub trailer : ℕ → ℕ
trailer c = cond (c == 0) 107 0

-- The type check: the first of the expected kinds whose code it is, or refusal 10.
unfoldable pub found : List Kind → ℕ → Result Kind MessageRefusal
found ks c = ok_or (find (λ k. code k == c) ks) Unexpected

-- The number check: above the last accepted one, and 1 in a log-in; else refusal 11.
abbrev pub acceptable : Kind → ℕ → ℕ → Bool
acceptable k last n = nat_lt last n && (not (opening k) || n == 1)

abbrev pub numbered : Kind → ℕ → ℕ → Result ℕ MessageRefusal
numbered k last n = cond (acceptable k last n) (Ok n) (Err Number)
