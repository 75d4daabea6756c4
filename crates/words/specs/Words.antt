-- The words of the seven commands.
use Rattle.std.specs.Prelude.{◌≡◌, ℕ, cond, List, Some, None, codes, Option, Result, ok_or}
use Rattle.octets.specs.Equality.{same}
use Rattle.words.specs.declared.word.Word.{Word}
use Rattle.words.specs.declared.word.UnknownWord.{UnknownWord}
use Rattle.words.specs.declared.word.Word.TheVariants.{Pwd, Lst, Chd, Mkd, Del, Upl, Dnl}

abbrev pub word_text : Word → List ℕ
word_text Pwd = codes "pwd"
word_text Lst = codes "lst"
word_text Chd = codes "chd"
word_text Mkd = codes "mkd"
word_text Del = codes "del"
word_text Upl = codes "upl"
word_text Dnl = codes "dnl"

-- The word that a field is, if it is one.
abbrev pub word_of : List ℕ → Option Word
word_of f =
    cond (same f (codes "pwd")) (Some Pwd)
    (cond (same f (codes "lst")) (Some Lst)
    (cond (same f (codes "chd")) (Some Chd)
    (cond (same f (codes "mkd")) (Some Mkd)
    (cond (same f (codes "del")) (Some Del)
    (cond (same f (codes "upl")) (Some Upl)
    (cond (same f (codes "dnl")) (Some Dnl) None))))))

-- The same as an answer.
abbrev pub word_read : List ℕ → Result Word UnknownWord
word_read f = ok_or (word_of f) (record {})

-- A word's text is read as that word, and a field that is read as a word is its text.
pub record WordsTold : Type 0 where
  pub back : (w : Word) → word_of (word_text w) ≡ Some w
  pub only : (f : List ℕ) (w : Word) → word_of f ≡ Some w → f ≡ word_text w
