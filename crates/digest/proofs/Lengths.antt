-- A digest has 32 bytes.
use Rattle.std.proofs.Common.{◌≡◌, ℕ, zero, suc, ◌*◌, ◌/◌, List, [], ◌∷◌, length, refl, ap, ◌∙◌, arith, length-append}
use Rattle.digest.specs.Sha256.{initial, be4, compress, hashed, padded, output, sha256}

eight : (m : List ℕ) (n : ℕ) → length (hashed initial m n) ≡ 8
unfolding hashed compress
eight m zero = refl
eight m (suc n) = refl

output-length : (s : List ℕ) → length (output s) ≡ 4 * length s
unfolding output
output-length [] = refl
output-length (x ∷ s) = let i = output-length s in omega (arith, length-append (be4 x) (output s))

pub sha256-length : (m : List ℕ) → length (sha256 m) ≡ 32
unfolding sha256
sha256-length m =
    let p = padded m in
    output-length (hashed initial p (length p / 64)) ∙ ap (λ n. 4 * n) (eight p (length p / 64))
