use Rattle.std.proofs.Common.{◌≡◌, eqb, Decides, arith, rules, tests}
use lib.Bits.{bit_or, bit_xor}
use Rattle.std.proofs.lemmas.Iterator.{YieldsList-from_slice, YieldsList-from_zip}
use Rattle.std.proofs.lemmas.Iterator.Consumers.{fold_from_yields_List}
use Rattle.octets.proofs.Agreement.{gathered, alike, agree_same, unlike}
use Rattle.octets.proofs.compare.equal.Goals as goal

pub returns-then-a-b : goal.returns-then-a-b
returns-then-a-b c =
    let d = unlike c.args.a.now c.args.b.now c.if-a-b.true in
    record { value = agree_same c.args.a.now c.args.b.now _ d; law = d }

pub returns : goal.returns
returns c =
    let a = c.args.a.now in
    let b = c.args.b.now in
    let f : c.fold.result ≡ gathered 0 a b =
    fold_from_yields_List _ (λ g p. bit_or g (bit_xor p.0 p.1)) 0 _ c.fold.ensures.ran
    (YieldsList-from_zip (YieldsList-from_slice a cc) (YieldsList-from_slice b cc)) (λ g x r q k. search (rules, tests)) in
    let d : Decides (eqb c.fold.result 0) (a ≡ b) = rw f (alike a b (omega arith)) in
    record { value = agree_same a b _ d; law = d }
