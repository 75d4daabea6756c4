-- What is written is read back.
use Rattle.std.proofs.Common.{◌≡◌, ℕ, ◌+◌, ◌-◌, ◌^◌, ◌<◌, ◌≤◌, true, List, ◌++◌, length, take, drop, Some, Ok, Result, sym, refl, ap, ◌∙◌, arith, length-append}
use Rattle.std.proofs.lemmas.List.{take_at, drop_at, drop-drop}
use Rattle.std.proofs.lemmas.Bool.Decides.{nat_tests}
use Rattle.kinds.specs.declared.kind.Kind.{Kind}
use Rattle.kinds.specs.declared.kind.Kind.TheVariants.{LogIn, LogInResponse, Command, Response, UploadFragment, LastUploadFragment, UploadResponse, GoAhead, DownloadFragment, LastDownloadFragment}
use Rattle.kinds.specs.declared.refusal.MessageRefusal.{MessageRefusal}
use Rattle.kinds.specs.Kinds.{code, trailer}
use Rattle.headers.specs.Headers.{header_bytes, headed, length_fits, Sized}
use Rattle.headers.proofs.Bytes.{reads}
use Rattle.message.specs.declared.receiving.Received.{Received}
use Rattle.message.specs.Meaning.{Sealing, Opening}
use Rattle.message.specs.Messages.{heading, message, Message, admitted, opens, received, told, text_after}
use Rattle.message.specs.Trip.{Proper, ReadsBack}
use Rattle.message.proofs.Opening.{received-by_admitted}

code_small : (k : Kind) → code k < 2 ^ 16
code_small LogIn = omega arith
code_small LogInResponse = omega arith
code_small Command = omega arith
code_small Response = omega arith
code_small UploadFragment = omega arith
code_small LastUploadFragment = omega arith
code_small UploadResponse = omega arith
code_small GoAhead = omega arith
code_small DownloadFragment = omega arith
code_small LastDownloadFragment = omega arith

-- A message of 28 bytes, its payload and its trailer has a length that its header may tell.
may : (c p a : ℕ) → a ≡ trailer c → 28 + p + a ≤ 4124 → length_fits (28 + p + a) c (28 + p + a) ≡ true
may c p a e h = grind (arith, nat_tests)

-- The parts of a message, as opening takes them.
opens_parts : (o : Opening) (x b t a : List ℕ) (p end : ℕ) → length x ≡ 16 → length b ≡ p → length t ≡ 12 → end ≡ 28 + p
    → opens o (x ++ (b ++ (t ++ a))) end ≡ o x b t
unfolding opens
opens_parts o x b t a p end lx lb lt e =
    let i : end - 28 ≡ p = omega arith in
    let j : end - 12 ≡ 16 + p = omega arith in
    let header : take 16 (x ++ (b ++ (t ++ a))) ≡ x = take_at x (b ++ (t ++ a)) 16 lx in
    let past : drop 16 (x ++ (b ++ (t ++ a))) ≡ b ++ (t ++ a) = drop_at x (b ++ (t ++ a)) 16 lx in
    let body : take p (b ++ (t ++ a)) ≡ b = take_at b (t ++ a) p lb in
    let further : drop (16 + p) (x ++ (b ++ (t ++ a))) ≡ t ++ a =
    sym (drop-drop p 16 (x ++ (b ++ (t ++ a)))) ∙ ap (λ z. drop p z) past ∙ drop_at b (t ++ a) p lb in
    let tag : take 12 (t ++ a) ≡ t = take_at t a 12 lt in
    rw (i, j, header, past, body, further, tag)

module _ (s : Sealing) (o : Opening)
    (reopens : (h p : List ℕ) → o h (s h p).0 (s h p).1 ≡ Some p)
    (level : (h p : List ℕ) → length (s h p).0 ≡ length p)
    (twelve : (h p : List ℕ) → length (s h p).1 ≡ 12)
    (e : List Kind) (last : ℕ) (k : Kind) (n : ℕ) (random payload after old : List ℕ) (proper : Proper e last k n random payload after old) where
  bytes : List ℕ
  bytes = header_bytes (heading (code k) n random (length payload) (length after))

  rest : List ℕ
  rest = (s (header_bytes (heading (code k) n random (length payload) (length after))) payload).0
      ++ ((s (header_bytes (heading (code k) n random (length payload) (length after))) payload).1 ++ after)

  m : List ℕ
  m = message s (code k) n random payload after

  is : m ≡ bytes ++ rest
  unfolding m bytes rest message
  is = refl

  rest_long : length rest ≡ length payload + 12 + length after
  unfolding rest
  rest_long =
      let x = header_bytes (heading (code k) n random (length payload) (length after)) in
      length-append (s x payload).0 ((s x payload).1 ++ after)
      ∙ rw (level x payload, length-append (s x payload).1 after, twelve x payload) (omega arith)

  bytes_long : length bytes ≡ 16
  unfolding bytes
  bytes_long = refl

  long : length m ≡ 28 + length payload + length after
  long =
      let b = bytes_long in
      let r = rest_long in
      ap length is ∙ length-append bytes rest ∙ omega arith

  sized : Sized (heading (code k) n random (length payload) (length after))
  sized =
      let one = proper.one in
      record { code = code_small k; told = omega arith; number = proper.number; random = proper.six }

  header_read : headed m ≡ Ok (heading (code k) n random (length payload) (length after))
  unfolding bytes
  header_read =
      let r = rest_long in
      let f : 16 + length rest ≡ 28 + length payload + length after = omega arith in
      ap headed is
      ∙ reads (heading (code k) n random (length payload) (length after)) rest sized
      (rw f (may (code k) (length payload) (length after) proper.follows proper.one))

  let_in : admitted e last m ≡ Ok (record { kind = k; number = n; end = length m - trailer (code k) })
  unfolding admitted
  let_in = rw (header_read, proper.awaited, proper.next)

  is_parts : m ≡ header_bytes (heading (code k) n random (length payload) (length after))
      ++ ((s (header_bytes (heading (code k) n random (length payload) (length after))) payload).0
      ++ ((s (header_bytes (heading (code k) n random (length payload) (length after))) payload).1 ++ after))
  unfolding m message
  is_parts = refl

  opens_to : opens o m (length m - trailer (code k)) ≡ Some payload
  opens_to =
      let x = header_bytes (heading (code k) n random (length payload) (length after)) in
      let l = long in
      let f = proper.follows in
      ap (λ z. opens o z (length m - trailer (code k))) is_parts
      ∙ opens_parts o x (s x payload).0 (s x payload).1 after (length payload) (length m - trailer (code k)) refl (level x payload) (twelve x payload) (omega arith)
      ∙ reopens x payload

  pub got : received o e last (message s (code k) n random payload after) old ≡ Ok (record { kind = k; number = n; payload = payload })
  unfolding m
  got = received-by_admitted o e last m old (Ok (record { kind = k; number = n; end = length m - trailer (code k) })) proper.room (sym let_in) ∙ rw opens_to

module _ (s : Sealing) (o : Opening)
    (reopens : (h p : List ℕ) → o h (s h p).0 (s h p).1 ≡ Some p)
    (level : (h p : List ℕ) → length (s h p).0 ≡ length p)
    (twelve : (h p : List ℕ) → length (s h p).1 ≡ 12)
    (e : List Kind) (last : ℕ) (m old : List ℕ) (r : Result Received MessageRefusal) (text : List ℕ) where
  -- What was received comes to q, and so do the answer and the text: then they are as promised, and what was written is read back.
  pub settled : (q : Result Message MessageRefusal) → received o e last m old ≡ q → r ≡ told q → text ≡ text_after q old
      → (r ≡ told (received o e last m old)) × (text ≡ text_after (received o e last m old) old) × ReadsBack s e last m old r text
  settled q w f g = (
    f ∙ ap told (sym w),
    g ∙ ap (λ z. text_after z old) (sym w),
    λ k n random payload after proper is.
        let v : q ≡ Ok (record { kind = k; number = n; payload = payload }) =
        sym w ∙ ap (λ z. received o e last z old) is ∙ got s o reopens level twelve e last k n random payload after old proper in
        (f ∙ ap told v, g ∙ ap (λ z. text_after z old) v),
  )
