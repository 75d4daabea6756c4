-- Commands read back from their texts.
use Rattle.std.proofs.Common.{◌≡◌, ℕ, ◌^◌, ◌<◌, true, List, [], ◌∷◌, length, is_some, Some, Ok, Result, sym, refl, ap, ◌∙◌, subst, arith}
use Rattle.std.specs.Option.{ok_or}
use Rattle.fields.specs.Cuts.{cut, placed, joined, all_unbroken}
use Rattle.fields.specs.Takes.{shown, and_then, ended}
use Rattle.fields.specs.declared.refusal.WrongField.{WrongField}
use Rattle.fields.proofs.Joins.{cut_of_joined, joined_of_cut}
use Rattle.fields.proofs.Ends.{err_not_ok, same_ok, shown_ok, and_then_ok, ok_or_ok, some_value}
use Rattle.numerals.specs.Decimals.{decimal_of}
use Rattle.numerals.specs.Digests.{digest_of}
use Rattle.numerals.proofs.Back.{decimals_read_back}
use Rattle.words.specs.declared.word.Word.{Word}
use Rattle.words.specs.declared.word.Word.TheVariants as w
use Rattle.words.specs.Words.{word_text, word_of}
use Rattle.commands.specs.Orders.{Order, pwd, lst, chd, mkd, del, upl, dnl, word_meant, parameters, formed, order_fields, name_of, upload_of, by_word, order_from, order_of, size_meant, Writable, CommandsReadBack}
use Rattle.words.proofs.Told.{words_told}

-- The parameters behind the word, wherever the word ends.
parameters_back : (end at : ℕ) (o : Order) → formed o ≡ true → size_meant o < 2 ^ 32 → by_word (word_meant o) end (placed at (parameters o)) ≡ Ok o
parameters_back end at pwd f s = refl
parameters_back end at lst f s = refl
parameters_back end at (chd x) f s = refl
parameters_back end at (mkd x) f s = refl
parameters_back end at (del x) f s = refl
parameters_back end at (upl x n d) f s =
    let t = some_value (digest_of d) f in
    rw (decimals_read_back.back (2 ^ 32) n s (omega arith), t.1)
parameters_back end at (dnl x) f s = refl

back : (o : Order) → Writable o → order_of (joined (order_fields o)) ≡ Ok o
back o w =
    let e = ap (placed 0) (cut_of_joined (word_text (word_meant o)) (parameters o) w.whole) in
    let b = words_told.back (word_meant o) in
    rw (e, b) (parameters_back _ _ o w.well w.small)

-- Fields behind a word that are read as a command are its parameters.
record Suits (v : Word) (fs : List (List ℕ)) (o : Order) : Type 0 where
  word : word_meant o ≡ v
  these : fs ≡ parameters o
  well : formed o ≡ true
  small : size_meant o < 2 ^ 32

is_it : (v : Word) (fs : List (List ℕ)) (o p : Order) → ◌≡◌ {A = Result Order WrongField} (Ok o) (Ok p) → Suits v fs o → Suits v fs p
is_it v fs o p h s = subst (Suits v fs) (same_ok o p h) s

bare_only : (at n : ℕ) (fs : List (List ℕ)) (v : Word) (o p : Order) → Suits v [] o → and_then (ended n (placed at fs)) (λ _. Ok o) ≡ Ok p → Suits v fs p
bare_only at n [] v o p s h = is_it v [] o p h s
bare_only at n (f ∷ fs) v o p s h = absurd (err_not_ok _ p h)

name_only : (end at : ℕ) (fs : List (List ℕ)) (x : List ℕ) → name_of end (placed at fs) ≡ Ok x → fs ≡ x ∷ []
name_only end at [] x h = absurd (err_not_ok _ x h)
name_only end at (f ∷ []) x h = let s = same_ok f x h in rw s
name_only end at (f ∷ g ∷ fs) x h = absurd (err_not_ok _ x h)

named_only : (end at : ℕ) (fs : List (List ℕ)) (v : Word) (c : List ℕ → Order) (p : Order) → ((x : List ℕ) → Suits v (x ∷ []) (c x))
    → shown c (name_of end (placed at fs)) ≡ Ok p → Suits v fs p
named_only end at fs v c p s h =
    let (x, (e, q)) = shown_ok c (name_of end (placed at fs)) p h in
    it fs x p (name_only end at fs x e) q
  where
    it : (fs : List (List ℕ)) (x : List ℕ) (p : Order) → fs ≡ x ∷ [] → c x ≡ p → Suits v fs p
    it fs x p n q = rw (n, ← q) (s x)

upload_end : (at n : ℕ) (x s d bs : List ℕ) (fs : List (List ℕ)) (p : Order) → decimal_of (2 ^ 32) s ≡ Some n → digest_of d ≡ Some bs
    → and_then (ended 5 (placed at fs)) (λ _. Ok (upl x n d)) ≡ Ok p → Suits w.Upl (x ∷ s ∷ d ∷ fs) p
upload_end at n x s d bs [] p e f h =
    let t = decimals_read_back.only (2 ^ 32) n s (omega arith) e in
    is_it w.Upl (x ∷ s ∷ d ∷ []) (upl x n d) p h
    (record { word = refl; these = ap (λ z. x ∷ z ∷ d ∷ []) t.0; well = ap is_some f; small = t.1 })
upload_end at n x s d bs (g ∷ gs) p e f h = absurd (err_not_ok _ p h)

upload_only : (end at : ℕ) (fs : List (List ℕ)) (p : Order) → upload_of end (placed at fs) ≡ Ok p → Suits w.Upl fs p
upload_only end at [] p h = absurd (err_not_ok _ p h)
upload_only end at (x ∷ []) p h = absurd (err_not_ok _ p h)
upload_only end at (x ∷ s ∷ []) p h =
    let (n, (e, k)) = and_then_ok (ok_or (decimal_of (2 ^ 32) s) _) _ p h in
    absurd (err_not_ok _ p k)
upload_only end at (x ∷ s ∷ d ∷ fs) p h =
    let (n, (e, k)) = and_then_ok (ok_or (decimal_of (2 ^ 32) s) _) _ p h in
    let (bs, (f, l)) = and_then_ok (ok_or (digest_of d) _) _ p k in
    upload_end _ n x s d bs fs p (ok_or_ok (decimal_of (2 ^ 32) s) _ n e) (ok_or_ok (digest_of d) _ bs f) l

parameters_only : (end at : ℕ) (v : Word) (fs : List (List ℕ)) (o : Order) → by_word v end (placed at fs) ≡ Ok o → Suits v fs o
parameters_only end at w.Pwd fs o h = bare_only at 2 fs w.Pwd pwd o (record { word = refl; these = refl; well = refl; small = omega arith }) h
parameters_only end at w.Lst fs o h = bare_only at 2 fs w.Lst lst o (record { word = refl; these = refl; well = refl; small = omega arith }) h
parameters_only end at w.Chd fs o h = named_only end at fs w.Chd chd o (λ x. record { word = refl; these = refl; well = refl; small = omega arith }) h
parameters_only end at w.Mkd fs o h = named_only end at fs w.Mkd mkd o (λ x. record { word = refl; these = refl; well = refl; small = omega arith }) h
parameters_only end at w.Del fs o h = named_only end at fs w.Del del o (λ x. record { word = refl; these = refl; well = refl; small = omega arith }) h
parameters_only end at w.Upl fs o h = upload_only end at fs o h
parameters_only end at w.Dnl fs o h = named_only end at fs w.Dnl dnl o (λ x. record { word = refl; these = refl; well = refl; small = omega arith }) h

word_and_parameters : (f : List ℕ) (fs : List (List ℕ)) (v : Word) (o : Order) → f ≡ word_text v → Suits v fs o → all_unbroken (f ∷ fs) ≡ true
    → Writable o × (f ∷ fs ≡ order_fields o)
word_and_parameters f fs v o e s u =
    let a = s.word in
    let b = s.these in
    let q : f ∷ fs ≡ order_fields o = cc in
    (record { well = s.well; whole = subst (λ z. all_unbroken z ≡ true) q u; small = s.small }, q)

fields_only : (end : ℕ) (fs : List (List ℕ)) (o : Order) → order_from end (placed 0 fs) ≡ Ok o → all_unbroken fs ≡ true → Writable o × (fs ≡ order_fields o)
fields_only end [] o h u = absurd (err_not_ok _ o h)
fields_only end (f ∷ fs) o h u =
    let (v, (e, k)) = and_then_ok (ok_or (word_of f) _) _ o h in
    word_and_parameters f fs v o (words_told.only f v (ok_or_ok (word_of f) _ v e)) (parameters_only end _ v fs o k) u

only : (t : List ℕ) (o : Order) → order_of t ≡ Ok o → Writable o × (t ≡ joined (order_fields o))
only t o h =
    let j = joined_of_cut t in
    let s = fields_only (length t) (cut t) o h j.1 in
    (s.0, sym j.0 ∙ ap joined s.1)

pub commands_read_back : CommandsReadBack
commands_read_back = record { back = back; only = only }
