-- The faults of a store: their numbers and levels.
use Rattle.std.specs.Prelude.{ℕ, Some, None, Ok, Err, Option, Result}
use Rattle.store.specs.Meaning.{up}
use Rattle.store.specs.declared.fault.StoreFault.{StoreFault}
use Rattle.store.specs.declared.fault.StoreFault.TheVariants.{ShortBuffer, DraftState, NoSuchKey, KeyExists, NoSpace, Held, WrongSize, BadKey}
use Rattle.store.specs.declared.fault.Lower.{Lower}

abbrev pub number : StoreFault → ℕ
number ShortBuffer = 3
number DraftState = 23
number NoSuchKey = 24
number KeyExists = 25
number (NoSpace l) = 26
number (Held l) = 27
number WrongSize = 28
number BadKey = 31

-- The level of the layer that lacks space or holds; none where a fault has none.
abbrev pub level : StoreFault → Option ℕ
level ShortBuffer = None
level DraftState = None
level NoSuchKey = None
level KeyExists = None
level (NoSpace l) = Some l
level (Held l) = Some l
level WrongSize = None
level BadKey = None

-- A fault from below, one layer up.
abbrev pub raise : StoreFault → StoreFault
raise ShortBuffer = ShortBuffer
raise DraftState = DraftState
raise NoSuchKey = NoSuchKey
raise KeyExists = KeyExists
raise (NoSpace l) = NoSpace (up l)
raise (Held l) = Held (up l)
raise WrongSize = WrongSize
raise BadKey = BadKey

-- What a layer takes from the store below it.
abbrev pub lowered : {T : Type 0} → Result T StoreFault → Result T Lower
lowered (Ok x) = Ok x
lowered (Err e) = Err (record { 0 = e })
