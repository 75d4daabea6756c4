-- Log-ins are read back from their texts, and no other text is read.
use Rattle.std.proofs.Common.{◌≡◌, ℕ, ◌^◌, ◌<◌, ◌≤◌, true, ◌&&◌, List, [], ◌∷◌, length, Some, Ok, decimal, sym, refl, ap, ◌∙◌, subst, arith, lit≤}
use Rattle.std.proofs.lemmas.Fmt.{length-decimal-le}
use Rattle.std.proofs.lemmas.List.{length-append}
use Rattle.std.proofs.lemmas.Bool.{and_parts, and_from, leb-true}
use Rattle.fields.specs.Cuts.{cut, placed, fields, joined, unbroken, all_unbroken}
use Rattle.fields.proofs.Joins.{cut_of_joined, joined_of_cut}
use Rattle.fields.specs.Takes.{taken_closed, ended_closed, writing, must, pass}
use Rattle.names.specs.Names.{user as is_user}
use Rattle.names.proofs.Told.{user-high, users_told}
use Rattle.numerals.specs.Decimals.{decimal_of}
use Rattle.numerals.proofs.Back.{decimals_read_back}
use Rattle.numerals.proofs.Least.{decimal_least}
use Rattle.payloads.specs.Credentials.{Credentials, short, credentials_fields, formed_credentials, credentials_from, credentials_of}
use Rattle.payloads.specs.Laws.{RightCredentials, credentials_record, where_room, LogInsReadBack}
use Rattle.payloads.proofs.Undone.{texts, texts-placed, step, was_closed, was_last, was_some, was_true, high-unbroken, written_so}

right-unbroken : (e : Credentials) → RightCredentials e → all_unbroken (credentials_fields e) ≡ true
right-unbroken e r =
    let p = and_parts (is_user e.user) (short e.password) r.formed in
    let s = high-unbroken 48 (decimal e.stamp) (omega arith) (decimal_least e.stamp r.stamp) in
    let u = high-unbroken 45 e.user (omega arith) (user-high e.user p.0) in
    and_from _ _ s (and_from _ _ u (and_from _ _ r.unbroken refl))

credentials_written : (e : Credentials) (room : ℕ) → RightCredentials e → writing (credentials_fields e) (formed_credentials e) room ≡ where_room (credentials_fields e) room
credentials_written e room r =
    let p = and_parts (is_user e.user) (short e.password) r.formed in
    let s : length (decimal e.stamp) ≤ 20 = length-decimal-le 20 e.stamp (omega arith) (omega (arith, r.stamp)) r.stamp in
    let u : length e.user ≤ 16 = ((users_told e.user).0 p.0).few in
    let w : length e.password ≤ 64 = leb-true (length e.password) 64 p.1 in
    let l : length (joined (credentials_fields e)) ≤ 4096 = simp length-append (omega arith) in
    written_so (credentials_fields e) (formed_credentials e) room r.formed (right-unbroken e r) l

placed_back : (end : ℕ) (e : Credentials) → RightCredentials e → credentials_from end (placed 0 (credentials_fields e)) ≡ Ok e
placed_back end e r =
    let p = and_parts (is_user e.user) (short e.password) r.formed in
    let d : decimal_of (2 ^ 64) (decimal e.stamp) ≡ Some e.stamp = decimals_read_back.back (2 ^ 64) e.stamp r.stamp (lit≤ tt) in
    rw (d, p.0, p.1)

credentials_back : (e : Credentials) → RightCredentials e → credentials_of (joined (credentials_fields e)) ≡ Ok e
credentials_back e r =
    let c : cut (joined (credentials_fields e)) ≡ credentials_fields e = cut_of_joined (decimal e.stamp) (e.user ∷ e.password ∷ [] ∷ []) (right-unbroken e r) in
    ap (λ fs. credentials_from (length (joined (credentials_fields e))) (placed 0 fs)) c ∙ placed_back (length (joined (credentials_fields e))) e r

-- A text of four fields that were read as a log-in.
cut_only : (t a : List ℕ) (n : ℕ) (u p : List ℕ) → cut t ≡ a ∷ u ∷ p ∷ [] ∷ [] → decimal_of (2 ^ 64) a ≡ Some n → is_user u ≡ true → short p ≡ true
    → RightCredentials (credentials_record n u p) × (t ≡ joined (credentials_fields (credentials_record n u p)))
cut_only t a n u p c d i s =
    let j = joined_of_cut t in
    let k : all_unbroken (a ∷ u ∷ p ∷ [] ∷ []) ≡ true = rw c at j.1 in
    let b = (and_parts (unbroken p) true (and_parts (unbroken u) (unbroken p && true) (and_parts (unbroken a) (unbroken u && (unbroken p && true)) k).1).1).0 in
    let o : (a ≡ decimal n) × (n < 2 ^ 64) = decimals_read_back.only (2 ^ 64) n a (lit≤ tt) d in
    (record { stamp = o.1; formed = and_from (is_user u) (short p) i s; unbroken = b }, sym j.0 ∙ ap joined c ∙ ap (λ x. joined (x ∷ u ∷ p ∷ [] ∷ [])) o.0)

credentials_only : (t : List ℕ) (e : Credentials) → credentials_of t ≡ Ok e → RightCredentials e × (t ≡ joined (credentials_fields e))
credentials_only t e h =
    step (taken_closed (length t) 1 (fields t)) _ e h (λ a a-is h.
    step (must 1 a.0 (decimal_of (2 ^ 64) a.0.bytes)) _ e h (λ n n-is h.
    step (taken_closed (length t) 2 a.1) _ e h (λ u u-is h.
    step (pass 2 u.0 (is_user u.0.bytes)) _ e h (λ _ user-is h.
    step (taken_closed (length t) 3 u.1) _ e h (λ p p-is h.
    step (pass 3 p.0 (short p.0.bytes)) _ e h (λ _ short-is h.
    step (ended_closed (length t) 4 p.1) _ e h (λ o last h.
    let c : cut t ≡ a.0.bytes ∷ u.0.bytes ∷ p.0.bytes ∷ [] ∷ [] = sym (texts-placed 0 (cut t)) ∙ ap texts (was_closed (length t) 1 (fields t) a a-is)
    ∙ ap (λ ps. a.0.bytes ∷ texts ps) (was_closed (length t) 2 a.1 u u-is) ∙ ap (λ ps. a.0.bytes ∷ u.0.bytes ∷ texts ps) (was_closed (length t) 3 u.1 p p-is)
    ∙ ap (λ fs. a.0.bytes ∷ u.0.bytes ∷ p.0.bytes ∷ fs) (was_last (length t) 4 p.1 o last) in
    let q : credentials_record n u.0.bytes p.0.bytes ≡ e = cc in
    subst (λ (x : Credentials). RightCredentials x × (t ≡ joined (credentials_fields x))) q
    (cut_only t a.0.bytes n u.0.bytes p.0.bytes c (was_some 1 a.0 _ n n-is) (was_true 2 u.0 _ _ user-is) (was_true 3 p.0 _ _ short-is)))))))))

pub log_ins_read_back : LogInsReadBack
log_ins_read_back = record { written = credentials_written; back = credentials_back; only = credentials_only }
