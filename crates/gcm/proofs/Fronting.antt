-- A body decrypted into the front of a buffer.
use Rattle.std.proofs.Common.{◌≡◌, ℕ, ◌<◌, List, [], length, Some, Err}
use borrow.Author.Tests.{lt-leb}
use Rattle.octets.specs.Fronts.{placed}
use Rattle.gcm.specs.Gcm.{gctr}
use Rattle.gcm.specs.declared.refusal.Undecrypted.TheVariants.{NoRoom}
use Rattle.gcm.specs.Refusals.{placing}
use Rattle.gcm.proofs.Law.{lengths-kept}

pub no_room : (E : ℕ → ℕ) (iv body old : List ℕ) → length old < length body
    → (Err NoRoom ≡ placing (Some (gctr E iv 2 body)) old) × (old ≡ placed (Some (gctr E iv 2 body)) old)
no_room E iv body old h =
    let e = lt-leb (length (gctr E iv 2 body)) (length old) (rw (lengths-kept E iv [] body).0 h) in
    (rw e, rw e)
