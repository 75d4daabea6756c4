-- Responses read back from their texts.
use Rattle.std.proofs.Common.{◌≡◌, ℕ, ◌^◌, ◌<◌, Bool, true, false, ◌∷◌, is_some, Some, Ok, Err, Result, refl, ap, arith}
use Rattle.std.proofs.lemmas.Bool.{and_parts, false≢true}
use Rattle.octets.specs.Equality.{same}
use Rattle.fields.specs.Cuts.{placed, joined}
use Rattle.fields.specs.Takes.{shown, and_then}
use Rattle.fields.specs.declared.refusal.WrongField.{WrongField}
use Rattle.fields.proofs.Joins.{cut_of_joined}
use Rattle.fields.proofs.Ends.{err_not_ok, same_ok, some_value}
use Rattle.numerals.specs.Digests.{digest_of}
use Rattle.numerals.proofs.Back.{decimals_read_back}
use Rattle.base64_text.specs.Base64.{decode}
use Rattle.words.specs.declared.word.Word.{Word}
use Rattle.words.specs.declared.word.Word.TheVariants.{Pwd, Lst, Chd, Mkd, Del, Upl, Dnl}
use Rattle.words.specs.Words.{word_text}
use Rattle.words.proofs.Told.{words_told}
use Rattle.words.specs.declared.status.Tells.{Tells}
use Rattle.words.specs.declared.status.Tells.TheVariants as t
use Rattle.words.specs.Statuses.{status_text, granting, refusing, tells, granted}
use Rattle.responses.specs.Replies.{Said, done, path, listing, file, refused, Reply, PlacedReply, Told, status_of, results, suits, reply_fields, granted_told, told_of, reply_of, size_said, Writable}

-- Whether what is said grants the command.
abbrev pub grants : Said → Bool
grants done = true
grants (path x) = true
grants (listing x) = true
grants (file n d) = true
grants (refused x) = false

-- Each family's two statuses are told apart.
granting_back : (w : Word) → granted w (status_text (granting w)) ≡ Some true
unfolding same
granting_back Pwd = refl
granting_back Lst = refl
granting_back Chd = refl
granting_back Mkd = refl
granting_back Del = refl
granting_back Upl = refl
granting_back Dnl = refl

refusing_back : (w : Word) → granted w (status_text (refusing w)) ≡ Some false
unfolding same
refusing_back Pwd = refl
refusing_back Lst = refl
refusing_back Chd = refl
refusing_back Mkd = refl
refusing_back Del = refl
refusing_back Upl = refl
refusing_back Dnl = refl

status_back : (w : Word) (s : Said) → granted w (status_text (status_of w s)) ≡ Some (grants s)
status_back w done = granting_back w
status_back w (path x) = granting_back w
status_back w (listing x) = granting_back w
status_back w (file n d) = granting_back w
status_back w (refused x) = refusing_back w

-- What is told where the command was granted.
granted_back : (end at : ℕ) (k : Tells) (s : Said) → grants s ≡ true → suits k s ≡ true → size_said s < 2 ^ 32
    → shown (λ (z : Told). z.said) (granted_told k end (placed at (results s))) ≡ Ok s
granted_back end at t.Nothing done g h z = refl
granted_back end at t.Nothing (path x) g h z = absurd (false≢true h)
granted_back end at t.Nothing (listing x) g h z = absurd (false≢true h)
granted_back end at t.Nothing (file n d) g h z = absurd (false≢true h)
granted_back end at t.Nothing (refused x) g h z = absurd (false≢true g)
granted_back end at t.Path done g h z = absurd (false≢true h)
granted_back end at t.Path (path x) g h z = refl
granted_back end at t.Path (listing x) g h z = absurd (false≢true h)
granted_back end at t.Path (file n d) g h z = absurd (false≢true h)
granted_back end at t.Path (refused x) g h z = absurd (false≢true g)
granted_back end at t.Listing done g h z = absurd (false≢true h)
granted_back end at t.Listing (path x) g h z = absurd (false≢true h)
granted_back end at t.Listing (listing x) g h z = let e = some_value (decode x) h in rw e.1
granted_back end at t.Listing (file n d) g h z = absurd (false≢true h)
granted_back end at t.Listing (refused x) g h z = absurd (false≢true g)
granted_back end at t.File done g h z = absurd (false≢true h)
granted_back end at t.File (path x) g h z = absurd (false≢true h)
granted_back end at t.File (listing x) g h z = absurd (false≢true h)
granted_back end at t.File (file n d) g h z =
    let e = some_value (digest_of d) h in
    rw (decimals_read_back.back (2 ^ 32) n z (omega arith), e.1)
granted_back end at t.File (refused x) g h z = absurd (false≢true g)

told_back : (end at : ℕ) (w : Word) (s : Said) → suits (tells w) s ≡ true → size_said s < 2 ^ 32
    → shown (λ (z : Told). z.said) (told_of (grants s) w end (placed at (results s))) ≡ Ok s
told_back end at w done h z = granted_back end at (tells w) done refl h z
told_back end at w (path x) h z = granted_back end at (tells w) (path x) refl h z
told_back end at w (listing x) h z = granted_back end at (tells w) (listing x) refl h z
told_back end at w (file n d) h z = granted_back end at (tells w) (file n d) refl h z
told_back end at w (refused x) h z = refl

-- The whole response, from what is told.
with_told : (q : Result Told WrongField) (s : Said) (f : Told → PlacedReply) (r : Reply) → shown (λ (z : Told). z.said) q ≡ Ok s
    → ((z : Told) → z.said ≡ s → (f z).reply ≡ r) → shown (λ (p : PlacedReply). p.reply) (and_then q (λ z. Ok (f z))) ≡ Ok r
with_told (Ok x) s f r h k = let e = k x (same_ok x.said s h) in rw e
with_told (Err e) s f r h k = absurd (err_not_ok e s h)

pub back : (r : Reply) → Writable r → shown (λ p. p.reply) (reply_of (joined (reply_fields r))) ≡ Ok r
back r v =
    let f = and_parts (is_some (digest_of r.request)) (suits (tells r.word) r.said) v.well in
    let e = ap (placed 0) (cut_of_joined (word_text r.word) (r.request ∷ status_text (status_of r.word r.said) ∷ results r.said) v.whole) in
    let d = some_value (digest_of r.request) f.0 in
    let b = words_told.back r.word in
    let s = status_back r.word r.said in
    rw (e, b, d.1, s)
    (with_told _ r.said _ r (told_back _ _ r.word r.said f.1 v.small) (λ z q. ap (λ (x : Said). record { word = r.word; request = r.request; said = x }) q))
