use Rattle.std.proofs.Common.{ℕ, List, ◌++◌, take}
use Rattle.mac.specs.Codes.{Authenticates}
use Rattle.mac.specs.Parts.{joined}
use Rattle.mac.proofs.code.Hmac.take_all.Given as goal

abbrev pub invariant-loop-part : goal.invariant-loop-part
invariant-loop-part l =
    (k m : List ℕ) → Authenticates l.initial.self k m → Authenticates l.self k (m ++ joined (take l.part-index l.parts))
