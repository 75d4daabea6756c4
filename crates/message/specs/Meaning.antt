-- What a seal means.
use Rattle.std.specs.Prelude.{ℕ, List, Option}

-- Sealing: header and payload to body and tag. Opening: header, body and tag to a payload, or none.
abbrev pub Sealing : Type 0
Sealing = List ℕ → List ℕ → List ℕ × List ℕ

abbrev pub Opening : Type 0
Opening = List ℕ → List ℕ → List ℕ → Option (List ℕ)
