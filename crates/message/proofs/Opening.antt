-- What a message past its checks opens to.
use Rattle.std.proofs.Common.{◌≡◌, ℕ, ◌-◌, ◌≤◌, true, false, List, length, take, drop, ◌+◌, ap, Some, None, Ok, Err, Option, Result, sym, refl, ◌∙◌, arith, length-drop, length-take}
use Rattle.std.proofs.lemmas.List.{drop-drop, drop-take, take-take}
use Rattle.std.proofs.lemmas.Bool.{le-leb, false≢true}
use Rattle.kinds.specs.declared.kind.Kind.{Kind}
use Rattle.kinds.specs.declared.refusal.MessageRefusal.{MessageRefusal}
use Rattle.kinds.specs.declared.refusal.MessageRefusal.TheVariants.{Unopened}
use Rattle.message.specs.declared.receiving.Admitted.{Admitted}
use Rattle.message.specs.Meaning.{Opening}
use Rattle.octets.specs.Fronts.{fits, placed}
use Rattle.message.specs.Messages.{admitted, opens, by_opened, by_admitted, received, told, text_after}

module _ (o : Opening) (e : List Kind) (last : ℕ) (m old : List ℕ) where
  pub received-by_admitted : (q : Result Admitted MessageRefusal) → 4096 ≤ length old → q ≡ admitted e last m → received o e last m old ≡ by_admitted o m q
  unfolding received
  received-by_admitted q h f = let g = le-leb 4096 (length old) h in rw (g, ← f)

-- A message up to the end of its tag, cut into header, body and tag.
pub cut : (m x r b t : List ℕ) (end : ℕ) → 28 ≤ end → end ≤ length m → x ≡ take 16 (take end m) → r ≡ drop 16 (take end m)
    → b ≡ take (length r - 12) r → t ≡ drop (length r - 12) r
    → (x ≡ take 16 m) × (b ≡ take (end - 28) (drop 16 m)) × (t ≡ take 12 (drop (end - 12) m))
cut m x r b t end low high ex er eb et =
    let k : end ≡ 16 + (end - 16) = omega arith in
    let s : r ≡ take (end - 16) (drop 16 m) = er ∙ ap (λ z. drop 16 (take z m)) k ∙ drop-take 16 (end - 16) m in
    let l : length r - 12 ≡ end - 28 = rw (s, length-take, length-drop) (omega arith) in
    let i : end - 16 ≡ (end - 28) + 12 = omega arith in
    let j : 16 + (end - 28) ≡ end - 12 = omega arith in (
      ex ∙ take-take 16 end m (omega arith),
      eb ∙ rw (l, s) (take-take (end - 28) (end - 16) (drop 16 m) (omega arith)),
      et ∙ rw (l, s, i) (drop-take (end - 28) 12 (drop 16 m) ∙ ap (λ z. take 12 z) (drop-drop (end - 28) 16 m ∙ ap (λ z. drop z m) j)),
    )

-- What is opened is as long as the body.
pub opens-length : (o : Opening) (m : List ℕ) (end : ℕ) → 28 ≤ end → end ≤ length m
    → ((h b t p : List ℕ) → o h b t ≡ Some p → length p ≡ length b) → (p : List ℕ) → opens o m end ≡ Some p → length p ≡ end - 28
unfolding opens
opens-length o m end low high leveled p e = leveled _ _ _ p e ∙ simp (length-take, length-drop) (omega arith)

pub not_opened : (a : Admitted) (x : Option (List ℕ)) (n : ℕ) (old : List ℕ) → ((p : List ℕ) → x ≡ Some p → length p ≡ n) → n ≤ length old
    → fits x old ≡ false → (by_opened a x ≡ Err Unopened) × (placed x old ≡ old)
not_opened a None n old l h e = (refl, refl)
not_opened a (Some p) n old l h e =
    let k = l p refl in
    absurd (false≢true (sym e ∙ le-leb (length p) (length old) (omega arith)))

pub opened : (a : Admitted) (x : Option (List ℕ)) (n : ℕ) (old : List ℕ) → ((p : List ℕ) → x ≡ Some p → length p ≡ n) → fits x old ≡ true
    → (told (by_opened a x) ≡ Ok (record { kind = a.kind; number = a.number; length = n })) × (placed x old ≡ text_after (by_opened a x) old)
opened a None n old l e = absurd (false≢true e)
opened a (Some p) n old l e = (rw (l p refl), rw e)
