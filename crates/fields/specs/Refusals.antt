-- The numbers of the refusals of a text.
use Rattle.std.specs.Prelude.{ℕ}
use Rattle.fields.specs.declared.refusal.WrongField.{WrongField}
use Rattle.fields.specs.declared.refusal.TextRefusal.{TextRefusal}
use Rattle.fields.specs.declared.refusal.TextRefusal.TheVariants.{Buffer, Form}

-- A text that is read, with a field that is wrong.
abbrev pub wrong_number : WrongField → ℕ
wrong_number w = 13

-- A text that is not written.
abbrev pub number : TextRefusal → ℕ
number Buffer = 3
number Form = 5
