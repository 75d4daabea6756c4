-- A text that is read as a response is that response's text.
use Rattle.std.proofs.Common.{◌≡◌, ℕ, ◌^◌, ◌<◌, Bool, true, false, cond, List, [], ◌∷◌, length, is_some, Some, None, Ok, Result, sym, refl, ap, ◌∙◌, subst, arith}
use Rattle.std.proofs.lemmas.Bool.{and_from}
use Rattle.std.specs.Option.{ok_or}
use Rattle.octets.specs.Equality.{same}
use Rattle.octets.proofs.Agreement.{same_decides}
use Rattle.fields.specs.Cuts.{cut, placed, joined, all_unbroken}
use Rattle.fields.specs.Takes.{and_then, ended}
use Rattle.fields.specs.declared.refusal.WrongField.{WrongField}
use Rattle.fields.proofs.Joins.{joined_of_cut}
use Rattle.fields.proofs.Ends.{err_not_ok, none_not_some, same_ok, and_then_ok, ok_or_ok}
use Rattle.numerals.specs.Decimals.{decimal_of}
use Rattle.numerals.specs.Digests.{digest_of}
use Rattle.numerals.proofs.Back.{decimals_read_back}
use Rattle.base64_text.specs.Base64.{decode}
use Rattle.words.specs.declared.word.Word.{Word}
use Rattle.words.specs.Words.{word_text, word_of}
use Rattle.words.proofs.Told.{words_told}
use Rattle.words.specs.declared.status.Tells.{Tells}
use Rattle.words.specs.declared.status.Tells.TheVariants as t
use Rattle.words.specs.declared.status.Status.{Status}
use Rattle.words.specs.Statuses.{status_text, granting, refusing, tells, granted}
use Rattle.responses.specs.Replies.{Said, done, path, listing, file, refused, PlacedReply, Told, status_of, results, suits, reply_fields, path_told, refusal_told, listing_told, file_told, granted_told, told_of, reply_from, reply_of, size_said, Writable}
use Rattle.responses.proofs.Back.{grants}

-- The status that says so.
abbrev chosen : Bool → Word → Status
chosen g w = cond g (granting w) (refusing w)

status_only : (w : Word) (f : List ℕ) (g : Bool) → granted w f ≡ Some g → f ≡ status_text (chosen g w)
status_only w f g h = by (same f (status_text (granting w))) (same f (status_text (refusing w))) refl refl h
  where
    by : (p q : Bool) → same f (status_text (granting w)) ≡ p → same f (status_text (refusing w)) ≡ q → cond p (Some true) (cond q (Some false) None) ≡ Some g
        → f ≡ status_text (chosen g w)
    by true q e d h = let s : true ≡ g = cc in subst (λ z. f ≡ status_text (chosen z w)) s ((same_decides f (status_text (granting w))).0 e)
    by false true e d h = let s : false ≡ g = cc in subst (λ z. f ≡ status_text (chosen z w)) s ((same_decides f (status_text (refusing w))).0 d)
    by false false e d h = absurd (none_not_some g h)

status_said : (w : Word) (s : Said) → status_of w s ≡ chosen (grants s) w
status_said w done = refl
status_said w (path x) = refl
status_said w (listing x) = refl
status_said w (file n d) = refl
status_said w (refused x) = refl

-- Fields behind a status that are read as something are what is said.
record Says (k : Tells) (g : Bool) (fs : List (List ℕ)) (s : Said) : Type 0 where
  way : grants s ≡ g
  these : fs ≡ results s
  well : suits k s ≡ true
  small : size_said s < 2 ^ 32

is_it : (k : Tells) (g : Bool) (fs : List (List ℕ)) (x z : Told) → ◌≡◌ {A = Result Told WrongField} (Ok x) (Ok z) → Says k g fs x.said → Says k g fs z.said
is_it k g fs x z h s = subst (λ (y : Told). Says k g fs y.said) (same_ok x z h) s

nothing_only : (end at : ℕ) (fs : List (List ℕ)) (z : Told) → granted_told t.Nothing end (placed at fs) ≡ Ok z → Says t.Nothing true fs z.said
nothing_only end at [] z h = is_it t.Nothing true [] _ z h (record { way = refl; these = refl; well = refl; small = omega arith })
nothing_only end at (f ∷ fs) z h = absurd (err_not_ok _ z h)

path_only : (end at : ℕ) (fs : List (List ℕ)) (z : Told) → path_told end (placed at fs) ≡ Ok z → Says t.Path true fs z.said
path_only end at [] z h = absurd (err_not_ok _ z h)
path_only end at (f ∷ []) z h = is_it t.Path true (f ∷ []) _ z h (record { way = refl; these = refl; well = refl; small = omega arith })
path_only end at (f ∷ g ∷ fs) z h = absurd (err_not_ok _ z h)

refusal_suits : (k : Tells) (x : List ℕ) → suits k (refused x) ≡ true
refusal_suits t.Nothing x = refl
refusal_suits t.Path x = refl
refusal_suits t.Listing x = refl
refusal_suits t.File x = refl

refusal_only : (end at : ℕ) (k : Tells) (fs : List (List ℕ)) (z : Told) → refusal_told end (placed at fs) ≡ Ok z → Says k false fs z.said
refusal_only end at k [] z h = absurd (err_not_ok _ z h)
refusal_only end at k (f ∷ []) z h = is_it k false (f ∷ []) _ z h (record { way = refl; these = refl; well = refusal_suits k f; small = omega arith })
refusal_only end at k (f ∷ g ∷ fs) z h = absurd (err_not_ok _ z h)

listing_end : (at : ℕ) (f bs : List ℕ) (fs : List (List ℕ)) (x z : Told) → decode f ≡ Some bs → x.said ≡ listing f
    → and_then (ended 5 (placed at fs)) (λ _. Ok x) ≡ Ok z → Says t.Listing true (f ∷ fs) z.said
listing_end at f bs [] x z e q h =
    is_it t.Listing true (f ∷ []) x z h (rw q (record { way = refl; these = refl; well = ap is_some e; small = omega arith }))
listing_end at f bs (g ∷ gs) x z e q h = absurd (err_not_ok _ z h)

listing_only : (end at : ℕ) (fs : List (List ℕ)) (z : Told) → listing_told end (placed at fs) ≡ Ok z → Says t.Listing true fs z.said
listing_only end at [] z h = absurd (err_not_ok _ z h)
listing_only end at (f ∷ fs) z h =
    let (bs, (e, k)) = and_then_ok (ok_or (decode f) _) _ z h in
    listing_end _ f bs fs _ z (ok_or_ok (decode f) _ bs e) refl k

file_end : (at n : ℕ) (s d bs : List ℕ) (fs : List (List ℕ)) (x z : Told) → decimal_of (2 ^ 32) s ≡ Some n → digest_of d ≡ Some bs → x.said ≡ file n d
    → and_then (ended 6 (placed at fs)) (λ _. Ok x) ≡ Ok z → Says t.File true (s ∷ d ∷ fs) z.said
file_end at n s d bs [] x z e f q h =
    let m = decimals_read_back.only (2 ^ 32) n s (omega arith) e in
    is_it t.File true (s ∷ d ∷ []) x z h (rw q (record { way = refl; these = ap (λ y. y ∷ d ∷ []) m.0; well = ap is_some f; small = m.1 }))
file_end at n s d bs (g ∷ gs) x z e f q h = absurd (err_not_ok _ z h)

file_only : (end at : ℕ) (fs : List (List ℕ)) (z : Told) → file_told end (placed at fs) ≡ Ok z → Says t.File true fs z.said
file_only end at [] z h = absurd (err_not_ok _ z h)
file_only end at (s ∷ []) z h =
    let (n, (e, k)) = and_then_ok (ok_or (decimal_of (2 ^ 32) s) _) _ z h in
    absurd (err_not_ok _ z k)
file_only end at (s ∷ d ∷ fs) z h =
    let (n, (e, k)) = and_then_ok (ok_or (decimal_of (2 ^ 32) s) _) _ z h in
    let (bs, (f, l)) = and_then_ok (ok_or (digest_of d) _) _ z k in
    file_end _ n s d bs fs _ z (ok_or_ok (decimal_of (2 ^ 32) s) _ n e) (ok_or_ok (digest_of d) _ bs f) refl l

granted_only : (end at : ℕ) (k : Tells) (fs : List (List ℕ)) (z : Told) → granted_told k end (placed at fs) ≡ Ok z → Says k true fs z.said
granted_only end at t.Nothing fs z h = nothing_only end at fs z h
granted_only end at t.Path fs z h = path_only end at fs z h
granted_only end at t.Listing fs z h = listing_only end at fs z h
granted_only end at t.File fs z h = file_only end at fs z h

told_only : (end at : ℕ) (g : Bool) (w : Word) (fs : List (List ℕ)) (z : Told) → told_of g w end (placed at fs) ≡ Ok z → Says (tells w) g fs z.said
told_only end at true w fs z h = granted_only end at (tells w) fs z h
told_only end at false w fs z h = refusal_only end at (tells w) fs z h

-- The whole response, from its parts.
put_together : (f r s : List ℕ) (fs : List (List ℕ)) (w : Word) (bs : List ℕ) (g : Bool) (z : Told) (p : PlacedReply)
    → f ≡ word_text w → digest_of r ≡ Some bs → s ≡ status_text (chosen g w) → Says (tells w) g fs z.said
    → p.reply ≡ record { word = w; request = r; said = z.said } → all_unbroken (f ∷ r ∷ s ∷ fs) ≡ true
    → Writable p.reply × (f ∷ r ∷ s ∷ fs ≡ reply_fields p.reply)
put_together f r s fs w bs g z p ef er es says ep u =
    let a = says.way in
    let b = says.these in
    let c = status_said w z.said in
    let q : f ∷ r ∷ s ∷ fs ≡ reply_fields (record { word = w; request = r; said = z.said }) = cc in
    let v : Writable (record { word = w; request = r; said = z.said }) = record {
      well = and_from (is_some (digest_of r)) (suits (tells w) z.said) (ap is_some er) says.well;
      whole = subst (λ y. all_unbroken y ≡ true) q u;
      small = says.small;
    } in
    rw ep (v, q)

fields_only : (end : ℕ) (fs : List (List ℕ)) (p : PlacedReply) → reply_from end (placed 0 fs) ≡ Ok p → all_unbroken fs ≡ true
    → Writable p.reply × (fs ≡ reply_fields p.reply)
fields_only end [] p h u = absurd (err_not_ok _ p h)
fields_only end (f ∷ []) p h u =
    let (w, (e, k)) = and_then_ok (ok_or (word_of f) _) _ p h in
    absurd (err_not_ok _ p k)
fields_only end (f ∷ r ∷ []) p h u =
    let (w, (e, k)) = and_then_ok (ok_or (word_of f) _) _ p h in
    let (bs, (d, l)) = and_then_ok (ok_or (digest_of r) _) _ p k in
    absurd (err_not_ok _ p l)
fields_only end (f ∷ r ∷ s ∷ fs) p h u =
    let (w, (e, k)) = and_then_ok (ok_or (word_of f) _) _ p h in
    let (bs, (d, l)) = and_then_ok (ok_or (digest_of r) _) _ p k in
    let (g, (i, m)) = and_then_ok (ok_or (granted w s) _) _ p l in
    let (z, (j, n)) = and_then_ok (told_of g w end _) _ p m in
    put_together f r s fs w bs g z p (words_told.only f w (ok_or_ok (word_of f) _ w e)) (ok_or_ok (digest_of r) _ bs d)
    (status_only w s g (ok_or_ok (granted w s) _ g i)) (told_only end _ g w fs z j) (ap (λ (y : PlacedReply). y.reply) (sym (same_ok _ p n))) u

pub only : (t : List ℕ) (p : PlacedReply) → reply_of t ≡ Ok p → Writable p.reply × (t ≡ joined (reply_fields p.reply))
only t p h =
    let j = joined_of_cut t in
    let s = fields_only (length t) (cut t) p h j.1 in
    (s.0, sym j.0 ∙ ap joined s.1)
