-- The numbers of the refusals of a message.
use Rattle.std.specs.Prelude.{ℕ}
use Rattle.kinds.specs.declared.refusal.MessageRefusal.{MessageRefusal}
use Rattle.kinds.specs.declared.refusal.MessageRefusal.TheVariants.{Buffer, Payload, Length, Version, Reserved, Unexpected, Number, Unopened}

abbrev pub number : MessageRefusal → ℕ
number Buffer = 3
number Payload = 5
number Length = 7
number Version = 8
number Reserved = 9
number Unexpected = 10
number Number = 11
number Unopened = 12
