-- Commands, their texts, and what a text is read as.
use Rattle.std.specs.Prelude.{◌≡◌, ℕ, ◌^◌, ◌<◌, Bool, true, List, [], ◌∷◌, length, is_some, Ok, decimal, Result}
use Rattle.fields.specs.Cuts.{Piece, fields, joined, all_unbroken}
use Rattle.fields.specs.Takes.{shown, and_then, must, taken, ended}
use Rattle.fields.specs.declared.refusal.WrongField.{WrongField}
use Rattle.numerals.specs.Decimals.{decimal_of}
use Rattle.numerals.specs.Digests.{digest_of}
use Rattle.commands.specs.declared.command.Command.{Command}
use Rattle.commands.specs.declared.command.Command.TheVariants as c
use Rattle.words.specs.declared.word.Word.{Word}
use Rattle.words.specs.declared.word.Word.TheVariants as w
use Rattle.words.specs.Words.{word_text, word_of}

-- A command by the bytes of its parameters, wherever they lie: name, size, digest in 64 characters.
pub data Order : Type 0 where
  pwd : Order
  lst : Order
  chd : List ℕ → Order
  mkd : List ℕ → Order
  del : List ℕ → Order
  upl : List ℕ → ℕ → List ℕ → Order
  dnl : List ℕ → Order

-- What a Command stands for.
abbrev pub meant : Command → Order
meant c.Pwd = pwd
meant c.Lst = lst
meant (c.Chd x) = chd x.now
meant (c.Mkd x) = mkd x.now
meant (c.Del x) = del x.now
meant (c.Upl x n d) = upl x.now n d.now
meant (c.Dnl x) = dnl x.now

-- Its word.
abbrev pub word_meant : Order → Word
word_meant pwd = w.Pwd
word_meant lst = w.Lst
word_meant (chd x) = w.Chd
word_meant (mkd x) = w.Mkd
word_meant (del x) = w.Del
word_meant (upl x n d) = w.Upl
word_meant (dnl x) = w.Dnl

-- The parameters as fields, and whether they are well-formed: a digest has 64 characters, a name is not judged here.
abbrev pub parameters : Order → List (List ℕ)
parameters pwd = []
parameters lst = []
parameters (chd x) = x ∷ []
parameters (mkd x) = x ∷ []
parameters (del x) = x ∷ []
parameters (upl x n d) = x ∷ decimal n ∷ d ∷ []
parameters (dnl x) = x ∷ []

abbrev pub formed : Order → Bool
formed pwd = true
formed lst = true
formed (chd x) = true
formed (mkd x) = true
formed (del x) = true
formed (upl x n d) = is_some (digest_of d)
formed (dnl x) = true

-- The fields of its text: word, then parameters.
abbrev pub order_fields : Order → List (List ℕ)
order_fields o = word_text (word_meant o) ∷ parameters o

-- One name, of a text that ends at a place.
abbrev pub name_of : ℕ → List Piece → Result (List ℕ) WrongField
name_of end ps =
    and_then (taken end 2 ps) (λ name.
    and_then (ended 3 name.1) (λ _. Ok name.0.bytes))

-- Name, size and digest.
abbrev pub upload_of : ℕ → List Piece → Result Order WrongField
upload_of end ps =
    and_then (taken end 2 ps) (λ name.
    and_then (taken end 3 name.1) (λ size.
    and_then (must 3 size.0 (decimal_of (2 ^ 32) size.0.bytes)) (λ n.
    and_then (taken end 4 size.1) (λ digest.
    and_then (must 4 digest.0 (digest_of digest.0.bytes)) (λ _.
    and_then (ended 5 digest.1) (λ _. Ok (upl name.0.bytes n digest.0.bytes)))))))

-- The parameters that suit a word.
abbrev pub by_word : Word → ℕ → List Piece → Result Order WrongField
by_word w.Pwd end ps = and_then (ended 2 ps) (λ _. Ok pwd)
by_word w.Lst end ps = and_then (ended 2 ps) (λ _. Ok lst)
by_word w.Chd end ps = shown chd (name_of end ps)
by_word w.Mkd end ps = shown mkd (name_of end ps)
by_word w.Del end ps = shown del (name_of end ps)
by_word w.Upl end ps = upload_of end ps
by_word w.Dnl end ps = shown dnl (name_of end ps)

-- The command that a text is, or its first wrong field.
abbrev pub order_from : ℕ → List Piece → Result Order WrongField
order_from end ps =
    and_then (taken end 1 ps) (λ first.
    and_then (must 1 first.0 (word_of first.0.bytes)) (λ word. by_word word end first.1))

abbrev pub order_of : List ℕ → Result Order WrongField
order_of t = order_from (length t) (fields t)

-- The size that a command announces; 0 where it announces none.
abbrev pub size_meant : Order → ℕ
size_meant pwd = 0
size_meant lst = 0
size_meant (chd x) = 0
size_meant (mkd x) = 0
size_meant (del x) = 0
size_meant (upl x n d) = n
size_meant (dnl x) = 0

-- A command that has a text: no byte 10 in its name, a digest of 64 characters, a size below 2^32.
pub record Writable (o : Order) : Type 0 where
  pub well : formed o ≡ true
  pub whole : all_unbroken (order_fields o) ≡ true
  pub small : size_meant o < 2 ^ 32

-- Exactly the texts of commands are read as commands: a command's text as that command, and a text as the command whose text it is.
pub record CommandsReadBack : Type 0 where
  pub back : (o : Order) → Writable o → order_of (joined (order_fields o)) ≡ Ok o
  pub only : (t : List ℕ) (o : Order) → order_of t ≡ Ok o → Writable o × (t ≡ joined (order_fields o))
