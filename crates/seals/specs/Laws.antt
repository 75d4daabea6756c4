-- The laws of both seals.
use Rattle.std.specs.Prelude.{◌≡◌, ℕ, Bool, true, false, cond, List, [], ◌++◌, length, Some, None, refl}
use Rattle.std.proofs.Common.{ap, ◌∙◌, arith, length-take-le}
use Rattle.digest.proofs.Lengths.{sha256-length}
use Rattle.digest.specs.Sha256.{sha256}
use Rattle.mac.specs.Hmac.{inner_key, outer_key, hmac}
use Rattle.octets.specs.Equality.{same}
use Rattle.octets.proofs.Agreement.{same_decides}
use Rattle.gcm.specs.Gcm.{gctr, decrypted}
use Rattle.gcm.proofs.Law.{lengths-kept}
use Rattle.seals.specs.Open.{open_tag, open_opening}

told : (c : Bool) (x p : List ℕ) → cond c (Some x) None ≡ Some p → p ≡ x
told true x p e = cc
told false x p e = absurd cc

pub leveled : (E : ℕ → ℕ) (iv added b t p : List ℕ) → decrypted E iv added b t ≡ Some p → length p ≡ length b
leveled E iv added b t p e = ap length (told _ (gctr E iv 2 b) p e) ∙ (lengths-kept E iv [] b).0

pub reopens : (key session h p : List ℕ) → open_opening key session h p (open_tag key session h p) ≡ Some p
reopens key session h p = let t = open_tag key session h p in rw ((same_decides t t).1 refl)

pub open_leveled : (key session h b t p : List ℕ) → open_opening key session h b t ≡ Some p → length p ≡ length b
open_leveled key session h b t p e = ap length (told (same t (open_tag key session h b)) b p e)

hmac_length : (k m : List ℕ) → length (hmac k m) ≡ 32
unfolding hmac
hmac_length k m = sha256-length (outer_key k ++ sha256 (inner_key k ++ m))

pub twelve : (key session h p : List ℕ) → length (open_tag key session h p) ≡ 12
twelve key session h p =
    let l : length (hmac key ((h ++ session) ++ p)) ≡ 32 = hmac_length key ((h ++ session) ++ p) in
    length-take-le 12 (hmac key ((h ++ session) ++ p)) (omega arith)
