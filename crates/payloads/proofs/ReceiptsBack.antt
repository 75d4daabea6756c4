-- Responses are read back from their texts, and no other text is read.
use Rattle.std.proofs.Common.{◌≡◌, ℕ, ◌^◌, ◌<◌, ◌≤◌, true, List, [], ◌∷◌, length, is_some, Some, Ok, decimal, sym, refl, ap, ◌∙◌, subst, arith, lit≤}
use Rattle.std.proofs.lemmas.Fmt.{length-decimal-le}
use Rattle.std.proofs.lemmas.List.{length-append}
use Rattle.std.proofs.lemmas.Bool.{and_from, eqb-true}
use Rattle.fields.specs.Cuts.{cut, placed, fields, joined, unbroken, all_unbroken}
use Rattle.fields.specs.Takes.{taken, ended, writing, must}
use Rattle.fields.proofs.Ends.{some_value}
use Rattle.fields.proofs.Joins.{cut_of_joined, joined_of_cut}
use Rattle.numerals.specs.Decimals.{decimal_of}
use Rattle.numerals.specs.Digests.{bytes_of, sized, digest_of}
use Rattle.numerals.proofs.Back.{sized_only, decimals_read_back}
use Rattle.numerals.proofs.Least.{decimal_least, read_digest_least}
use Rattle.payloads.specs.Receipts.{answer_fields, formed_answer, answer_from, answer_of, Receipt, receipt_fields, formed_receipt, receipt_from, receipt_of}
use Rattle.payloads.specs.Laws.{where_room, AnswersReadBack, RightReceipt, ReceiptsReadBack}
use Rattle.payloads.proofs.Undone.{texts, texts-placed, step, was_taken, was_end, was_some, high-unbroken, written_so}

digest_unbroken : (d bs : List ℕ) → digest_of d ≡ Some bs → unbroken d ≡ true
digest_unbroken d bs e = high-unbroken 48 d (omega arith) (read_digest_least d bs e)

digest_sized : (d bs : List ℕ) → digest_of d ≡ Some bs → length d ≡ 64
unfolding digest_of
digest_sized d bs e = eqb-true (length d) 64 (sized_only (sized d) (bytes_of d) bs e).0

answer_written : (d : List ℕ) (room : ℕ) → formed_answer d ≡ true → writing (answer_fields d) (formed_answer d) room ≡ where_room (answer_fields d) room
answer_written d room f =
    let (bs, e) = some_value (digest_of d) f in
    let k : length d ≡ 64 = digest_sized d bs e in
    let l : length (joined (answer_fields d)) ≤ 4096 = simp length-append (omega arith) in
    written_so (answer_fields d) (formed_answer d) room f (and_from _ _ (digest_unbroken d bs e) refl) l

answer_back : (d : List ℕ) → formed_answer d ≡ true → answer_of (joined (answer_fields d)) ≡ Ok d
answer_back d f =
    let (bs, e) = some_value (digest_of d) f in
    let c : cut (joined (answer_fields d)) ≡ answer_fields d = cut_of_joined d [] (and_from _ _ (digest_unbroken d bs e) refl) in
    ap (λ fs. answer_from (length (joined (answer_fields d))) (placed 0 fs)) c ∙ rw e

answer_only : (t d : List ℕ) → answer_of t ≡ Ok d → (formed_answer d ≡ true) × (t ≡ joined (answer_fields d))
answer_only t d h =
    step (taken (length t) 1 (fields t)) _ d h (λ a a-is h.
    step (must 1 a.0 (digest_of a.0.bytes)) _ d h (λ bs digest-is h.
    step (ended 2 a.1) _ d h (λ o last h.
    let c : cut t ≡ a.0.bytes ∷ [] = sym (texts-placed 0 (cut t)) ∙ ap texts (was_taken (length t) 1 (fields t) a a-is) ∙ ap (λ ps. a.0.bytes ∷ texts ps) (was_end 2 a.1 o last) in
    let q : a.0.bytes ≡ d = cc in
    subst (λ (x : List ℕ). (formed_answer x ≡ true) × (t ≡ joined (answer_fields x))) q
    (ap is_some (was_some 1 a.0 _ bs digest-is), sym (joined_of_cut t).0 ∙ ap joined c))))

pub answers_read_back : AnswersReadBack
answers_read_back = record { written = answer_written; back = answer_back; only = answer_only }

receipt_unbroken : (v : Receipt) → RightReceipt v → all_unbroken (receipt_fields v) ≡ true
receipt_unbroken v r =
    let (bs, e) = some_value (digest_of v.digest) r.formed in
    let n : v.size < 2 ^ 64 = omega (arith, r.size) in
    let s = high-unbroken 48 (decimal v.size) (omega arith) (decimal_least v.size n) in
    and_from _ _ (digest_unbroken v.digest bs e) (and_from _ _ s refl)

receipt_written : (v : Receipt) (room : ℕ) → RightReceipt v → writing (receipt_fields v) (formed_receipt v) room ≡ where_room (receipt_fields v) room
receipt_written v room r =
    let (bs, e) = some_value (digest_of v.digest) r.formed in
    let k : length v.digest ≡ 64 = digest_sized v.digest bs e in
    let s : length (decimal v.size) ≤ 10 = length-decimal-le 10 v.size (omega arith) (omega (arith, r.size)) (omega (arith, r.size)) in
    let l : length (joined (receipt_fields v)) ≤ 4096 = simp length-append (omega arith) in
    written_so (receipt_fields v) (formed_receipt v) room r.formed (receipt_unbroken v r) l

receipt_back : (v : Receipt) → RightReceipt v → receipt_of (joined (receipt_fields v)) ≡ Ok v
receipt_back v r =
    let (bs, e) = some_value (digest_of v.digest) r.formed in
    let c : cut (joined (receipt_fields v)) ≡ receipt_fields v = cut_of_joined v.digest (decimal v.size ∷ []) (receipt_unbroken v r) in
    let d : decimal_of (2 ^ 32) (decimal v.size) ≡ Some v.size = decimals_read_back.back (2 ^ 32) v.size r.size (lit≤ tt) in
    ap (λ fs. receipt_from (length (joined (receipt_fields v))) (placed 0 fs)) c ∙ rw (e, d)

receipt_only : (t : List ℕ) (v : Receipt) → receipt_of t ≡ Ok v → RightReceipt v × (t ≡ joined (receipt_fields v))
receipt_only t v h =
    step (taken (length t) 1 (fields t)) _ v h (λ a a-is h.
    step (must 1 a.0 (digest_of a.0.bytes)) _ v h (λ bs digest-is h.
    step (taken (length t) 2 a.1) _ v h (λ s s-is h.
    step (must 2 s.0 (decimal_of (2 ^ 32) s.0.bytes)) _ v h (λ n n-is h.
    step (ended 3 s.1) _ v h (λ o last h.
    let c : cut t ≡ a.0.bytes ∷ s.0.bytes ∷ [] = sym (texts-placed 0 (cut t)) ∙ ap texts (was_taken (length t) 1 (fields t) a a-is)
    ∙ ap (λ ps. a.0.bytes ∷ texts ps) (was_taken (length t) 2 a.1 s s-is) ∙ ap (λ ps. a.0.bytes ∷ s.0.bytes ∷ texts ps) (was_end 3 s.1 o last) in
    let d : (s.0.bytes ≡ decimal n) × (n < 2 ^ 32) = decimals_read_back.only (2 ^ 32) n s.0.bytes (lit≤ tt) (was_some 2 s.0 _ n n-is) in
    let w : Receipt = record { digest = a.0.bytes; size = n } in
    let q : w ≡ v = cc in
    subst (λ (x : Receipt). RightReceipt x × (t ≡ joined (receipt_fields x))) q (
      record { formed = ap is_some (was_some 1 a.0 _ bs digest-is); size = d.1 },
      sym (joined_of_cut t).0 ∙ ap joined c ∙ ap (λ x. joined (a.0.bytes ∷ x ∷ [])) d.0,
    ))))))

pub receipts_read_back : ReceiptsReadBack
receipts_read_back = record { written = receipt_written; back = receipt_back; only = receipt_only }
