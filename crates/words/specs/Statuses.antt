-- The statuses of responses, and what a response tells.
use Rattle.std.specs.Prelude.{ℕ, Bool, true, false, cond, List, Some, None, codes, Option}
use Rattle.octets.specs.Equality.{same}
use Rattle.words.specs.declared.word.Word.{Word}
use Rattle.words.specs.declared.word.Word.TheVariants.{Pwd, Lst, Chd, Mkd, Del, Upl, Dnl}
use Rattle.words.specs.declared.status.Status.{Status}
use Rattle.words.specs.declared.status.Status.TheVariants as s
use Rattle.words.specs.declared.status.Tells.{Tells}
use Rattle.words.specs.declared.status.Tells.TheVariants as t

-- A status as text.
abbrev pub status_text : Status → List ℕ
status_text s.Success = codes "success"
status_text s.Failure = codes "failure"
status_text s.Accept = codes "accept"
status_text s.Reject = codes "reject"

-- The status of a word's family that grants, and the one that does not.
abbrev pub granting : Word → Status
granting Pwd = s.Success
granting Lst = s.Success
granting Chd = s.Success
granting Mkd = s.Success
granting Del = s.Success
granting Upl = s.Accept
granting Dnl = s.Accept

abbrev pub refusing : Word → Status
refusing Pwd = s.Failure
refusing Lst = s.Failure
refusing Chd = s.Failure
refusing Mkd = s.Failure
refusing Del = s.Failure
refusing Upl = s.Reject
refusing Dnl = s.Reject

-- What a word's response tells where the command was granted: pwd a path, lst a listing, dnl a file, the others nothing.
abbrev pub tells : Word → Tells
tells Pwd = t.Path
tells Lst = t.Listing
tells Chd = t.Nothing
tells Mkd = t.Nothing
tells Del = t.Nothing
tells Upl = t.Nothing
tells Dnl = t.File

-- Whether a status grants.
abbrev pub grants : Status → Bool
grants s.Success = true
grants s.Failure = false
grants s.Accept = true
grants s.Reject = false

-- The status of the word's family that a field is, if it is one of the two.
abbrev pub status_read : Word → List ℕ → Option Status
status_read w f =
    cond (same f (status_text (granting w))) (Some (granting w))
    (cond (same f (status_text (refusing w))) (Some (refusing w)) None)

-- Whether a field is the status of the word's family that grants, or the one that does not.
abbrev pub granted : Word → List ℕ → Option Bool
granted w f =
    cond (same f (status_text (granting w))) (Some true)
    (cond (same f (status_text (refusing w))) (Some false) None)
