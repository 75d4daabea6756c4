-- The causes for which a command is refused, their numbers and their words.
use Rattle.std.specs.Prelude.{◌≡◌, ℕ, cond, List, Some, None, codes, Option, Result, MatchOption, ◌==◌, ◌≢◌}
use Rattle.octets.specs.Equality.{same}
use Rattle.std.specs.List.{AllByRecursion}
use Rattle.std.specs.Option.{ok_or}
use Rattle.causes.specs.declared.cause.Cause.{Cause}
use Rattle.causes.specs.declared.cause.UnknownCause.{UnknownCause}
use Rattle.causes.specs.declared.cause.UnknownWords.{UnknownWords}
use Rattle.causes.specs.declared.cause.Cause.TheVariants.{NoSpace, Held, BadName, PathTooLong, NoSuchName, AlreadyThere, NotEmpty, AtTop, ListTooLong}

-- The number of a cause.
abbrev pub number : Cause → ℕ
number NoSpace = 26
number Held = 27
number BadName = 31
number PathTooLong = 32
number NoSuchName = 33
number AlreadyThere = 34
number NotEmpty = 35
number AtTop = 36
number ListTooLong = 37

-- The words of a cause.
abbrev pub word : Cause → List ℕ
word NoSpace = codes "no space"
word Held = codes "held"
word BadName = codes "bad name"
word PathTooLong = codes "path too long"
word NoSuchName = codes "no such name"
word AlreadyThere = codes "already there"
word NotEmpty = codes "not empty"
word AtTop = codes "already at the top"
word ListTooLong = codes "list too long"

-- The cause of a number; any other number is of none.
abbrev pub cause_of : ℕ → Option Cause
cause_of n =
    cond (n == 26) (Some NoSpace)
    (cond (n == 27) (Some Held)
    (cond (n == 31) (Some BadName)
    (cond (n == 32) (Some PathTooLong)
    (cond (n == 33) (Some NoSuchName)
    (cond (n == 34) (Some AlreadyThere)
    (cond (n == 35) (Some NotEmpty)
    (cond (n == 36) (Some AtTop)
    (cond (n == 37) (Some ListTooLong) None))))))))

-- The cause of some words; any others are of none.
abbrev pub cause_of_word : List ℕ → Option Cause
cause_of_word t =
    cond (same t (codes "no space")) (Some NoSpace)
    (cond (same t (codes "held")) (Some Held)
    (cond (same t (codes "bad name")) (Some BadName)
    (cond (same t (codes "path too long")) (Some PathTooLong)
    (cond (same t (codes "no such name")) (Some NoSuchName)
    (cond (same t (codes "already there")) (Some AlreadyThere)
    (cond (same t (codes "not empty")) (Some NotEmpty)
    (cond (same t (codes "already at the top")) (Some AtTop)
    (cond (same t (codes "list too long")) (Some ListTooLong) None))))))))

-- The same as answers.
abbrev pub numbered : ℕ → Result Cause UnknownCause
numbered n = ok_or (cause_of n) (record { 0 = n })

abbrev pub worded : List ℕ → Result Cause UnknownWords
worded t = ok_or (cause_of_word t) (record {})

-- Each cause's number is of that cause, and a number that is of a cause is that cause's.
abbrev pub NumbersTellCauses : Type 0
NumbersTellCauses = ((c : Cause) → cause_of (number c) ≡ Some c) × ((n : ℕ) → MatchOption (cause_of n) ((c : Cause) → number c ≢ n) (λ c. number c ≡ n))

-- Each cause's words are of that cause, and words that are of a cause are that cause's.
abbrev pub WordsTellCauses : Type 0
WordsTellCauses = ((c : Cause) → cause_of_word (word c) ≡ Some c) × ((t : List ℕ) → MatchOption (cause_of_word t) ((c : Cause) → word c ≢ t) (λ c. word c ≡ t))

-- No cause's words hold byte 10.
abbrev pub WordsUnbroken : Type 0
WordsUnbroken = (c : Cause) → AllByRecursion (λ b. b ≢ 10) (word c)
