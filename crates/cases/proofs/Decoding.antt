-- How decoding goes on after the bytes that were decoded.
use Rattle.std.proofs.Common.{◌≡◌, ℕ, List, [], ◌∷◌, ◌++◌, length, get_or, IsErrAnd, IfErr, Ok, Err, Result, sym, refl, ap, ◌∙◌, append_assoc, append-nil, arith}
use Rattle.cases.specs.declared.fault.Fault.{Fault}
use Rattle.cases.specs.declared.fault.Fault.TheVariants.{Odd}
use Rattle.cases.specs.Hex.{pair, before, then_decoded, decoded}

abbrev pub onto : List ℕ → Result (List ℕ) Fault → Result (List ℕ) Fault
onto xs (Ok ys) = Ok (xs ++ ys)
onto xs (Err e) = Err e

pub onto-before : (xs : List ℕ) (b : ℕ) (r : Result (List ℕ) Fault) → onto xs (before b r) ≡ onto (xs ++ b ∷ []) r
onto-before xs b (Ok ys) = ap Ok (sym (append_assoc xs (b ∷ []) ys))
onto-before xs b (Err e) = refl

-- Two digits further.
pub goes_on : (xs rest two more : List ℕ) (b : ℕ) → rest ≡ two ++ more → length two ≡ 2 → pair (get_or two 0 0) (get_or two 1 0) ≡ Ok b →
    onto xs (decoded rest) ≡ onto (xs ++ b ∷ []) (decoded more)
unfolding decoded
goes_on xs rest [] more b c n e = absurd (omega arith)
goes_on xs rest (h ∷ []) more b c n e = absurd (omega arith)
goes_on xs rest (h ∷ l ∷ []) more b c n e = rw c (ap (λ p. onto xs (then_decoded p (decoded more))) e ∙ onto-before xs b (decoded more))
goes_on xs rest (h ∷ l ∷ d ∷ ds) more b c n e = absurd (omega arith)

-- The first of two that is no digit.
pub stops : (xs rest two more : List ℕ) (f : Fault) → rest ≡ two ++ more → length two ≡ 2 → pair (get_or two 0 0) (get_or two 1 0) ≡ Err f →
    onto xs (decoded rest) ≡ Err f
unfolding decoded
stops xs rest [] more f c n e = absurd (omega arith)
stops xs rest (h ∷ []) more f c n e = absurd (omega arith)
stops xs rest (h ∷ l ∷ []) more f c n e = rw c (ap (λ p. onto xs (then_decoded p (decoded more))) e)
stops xs rest (h ∷ l ∷ d ∷ ds) more f c n e = absurd (omega arith)

pub lone : (xs rest : List ℕ) → length rest ≡ 1 → onto xs (decoded rest) ≡ Err Odd
unfolding decoded
lone xs [] e = absurd (omega arith)
lone xs (h ∷ []) e = refl
lone xs (h ∷ l ∷ ds) e = absurd (omega arith)

pub done : (xs rest : List ℕ) → length rest ≡ 0 → onto xs (decoded rest) ≡ Ok xs
unfolding decoded
done xs [] e = ap Ok (append-nil xs)
done xs (h ∷ ds) e = absurd (omega arith)

-- What holds of an error.
pub refused_by : {V : Type 0} (r : Result V Fault) (Q P : Fault → Type 0) → IsErrAnd r Q → ((f : Fault) → Q f → P f) → IfErr r P
refused_by (Ok v) Q P q k = tt
refused_by (Err f) Q P q k = k f q
