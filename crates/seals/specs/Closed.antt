-- The closed seal: AES-256-GCM (FIPS 197, SP 800-38D) over a session ID.
use Rattle.std.specs.Prelude.{ℕ, List, [], ◌∷◌, ◌++◌, slice_index}
use Rattle.gcm.specs.Gcm.{encrypted, tag_of, decrypted}
use Rattle.message.specs.Meaning.{Sealing, Opening}

-- The IV: type, number and random bytes of the header, and the first two bytes of the session ID.
abbrev pub iv_of : List ℕ → List ℕ → List ℕ
iv_of h session =
    slice_index h 2 ∷ slice_index h 3 ∷ slice_index h 6 ∷ slice_index h 7 ∷
    slice_index h 8 ∷ slice_index h 9 ∷ slice_index h 10 ∷ slice_index h 11 ∷ slice_index h 12 ∷ slice_index h 13 ∷
    slice_index session 0 ∷ slice_index session 1 ∷ []

-- Header and session ID are additional data. E is the block cipher under the key.
abbrev pub closed_sealing : (ℕ → ℕ) → List ℕ → Sealing
closed_sealing E session h p = (encrypted E (iv_of h session) p, tag_of E (iv_of h session) (h ++ session) (encrypted E (iv_of h session) p))

abbrev pub closed_opening : (ℕ → ℕ) → List ℕ → Opening
closed_opening E session h b t = decrypted E (iv_of h session) (h ++ session) b t
