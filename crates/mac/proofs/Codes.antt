-- A code under way comes to HMAC-SHA-256, however the message was cut.
use Rattle.std.proofs.Common.{◌≡◌, ℕ, zero, suc, ◌+◌, ◌<◌, List, [], ◌∷◌, ◌++◌, length, get_or, take, sym, ap, ◌∙◌, append_assoc, append-nil, add-one, arith, Bor}
use Rattle.digest.specs.Running.{start}
use Rattle.digest.proofs.Pieces.{joins, comes_to_digest}
use Rattle.mac.specs.Codes.{Code, keyed, take_in, code, ComesToHmac, TakesTwice}
use Rattle.mac.specs.Hmac.{inner_key, hmac}
use Rattle.mac.specs.Parts.{joined}

pub comes_to_hmac : ComesToHmac
unfolding code keyed hmac
comes_to_hmac k m = simp (joins, comes_to_digest)

pub takes_twice : TakesTwice
takes_twice c a b = rw (joins c.inner a b)

-- A message in parts.
pub keyed-none : (k : List ℕ) → keyed k ≡ take_in (keyed k) []
unfolding keyed
keyed-none k = rw (joins start (inner_key k) [], append-nil)

joined-more : (ps : List (Bor (List ℕ))) (i : ℕ) (d : Bor (List ℕ)) → i < length ps
    → joined (take (suc i) ps) ≡ joined (take i ps) ++ (get_or ps i d).now
joined-more [] i d h = absurd (omega arith)
joined-more (p ∷ ps) zero d h = append-nil p.now
joined-more (p ∷ ps) (suc i) d h =
    ap (λ x. p.now ++ x) (joined-more ps i d (omega arith)) ∙ sym (append_assoc p.now (joined (take i ps)) (get_or ps i d).now)

pub parts_more : (k m : List ℕ) (ps : List (Bor (List ℕ))) (i : ℕ) (c : Code) (d : Bor (List ℕ)) → i < length ps
    → c ≡ take_in (keyed k) ((m ++ joined (take i ps)) ++ (get_or ps i d).now) → c ≡ take_in (keyed k) (m ++ joined (take (i + 1) ps))
parts_more k m ps i c d h f =
    f ∙ ap (λ x. take_in (keyed k) x) (append_assoc m (joined (take i ps)) (get_or ps i d).now ∙ ap (λ x. m ++ x) (sym (joined-more ps i d h) ∙ rw add-one))
