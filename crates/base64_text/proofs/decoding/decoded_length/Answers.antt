use Rattle.std.proofs.Common.{◌≡◌, ◌+◌, ◌*◌, ◌<◌, [], length, Some, sym, ap, ◌∙◌, arith, rules, eqb-true}
use borrow.Author.Tests.{eqb-false}
use Rattle.base64_text.specs.Base64.{before, decode}
use Rattle.base64_text.specs.Groups.{counted, held}
use Rattle.base64_text.proofs.Steps.{rest, odd, empty, read-front, read-last, count-none, count-more, count-last}
use Rattle.base64_text.proofs.decoding.decoded_length.Goals as goal

pub returns-then-not-is_empty : goal.returns-then-not-is_empty
returns-then-not-is_empty c =
    let n = eqb-false (length c.as_chunks.result.1.now) 0 (sym c.if-not-is_empty.ensures) in
    let b = c.as_chunks.ensures.back_len in
    ap counted (sym (odd c.args.text.now (length c.as_chunks.result.1.now) (omega (arith, n)) (omega (arith, b)) (sym b)))

pub returns-in_default : goal.returns-in_default
returns-in_default c =
    let z = sym c.as_chunks.ensures.back_len ∙ eqb-true (length c.as_chunks.result.1.now) 0 (sym c.if-not-is_empty.ensures) in
    ap counted (sym (empty c.args.text.now (sym c.as_chunks.ensures.front_len ∙ c.in_default.ensures.cases) z))

pub returns-in_err-three_bytes : goal.returns-in_err-three_bytes
returns-in_err-three_bytes c =
    let t = c.args.text.now in
    let i = c.loop-a.a-index in
    let k = c.in-Some.ensures.cases in
    let h : i < length c.in-Some.front.now = search rules in
    let z = sym c.as_chunks.ensures.back_len ∙ eqb-true (length c.as_chunks.result.1.now) 0 (sym c.if-not-is_empty.ensures) in
    let r = read-front t _ _ _ c.as_chunks.ensures.front c.as_chunks.ensures.front_len z k.0 k.1 i h in
    let e = r ∙ ap (λ x. before x (decode (rest t (i + 1)))) (sym c.three_bytes.ensures ∙ c.in_err-three_bytes.was) in
    c.from_residual.ensures ∙ count-none (3 * i) (decode (rest t i)) (counted (decode t)) e c.loop-a.invariant

pub loop-a-preserved : goal.loop-a-preserved
loop-a-preserved c =
    let t = c.args.text.now in
    let i = c.loop-a.a-index in
    let k = c.in-Some.ensures.cases in
    let bs = c.in_ok-three_bytes.field-0 in
    let h : i < length c.in-Some.front.now = search rules in
    let z = sym c.as_chunks.ensures.back_len ∙ eqb-true (length c.as_chunks.result.1.now) 0 (sym c.if-not-is_empty.ensures) in
    let r = read-front t _ _ _ c.as_chunks.ensures.front c.as_chunks.ensures.front_len z k.0 k.1 i h in
    let e = r ∙ ap (λ x. before x (decode (rest t (i + 1)))) (sym c.three_bytes.ensures ∙ c.in_ok-three_bytes.was) in
    let l : length bs ≡ 3 = search rules in
    let n : 3 * i + 3 ≡ 3 * (i + 1) = omega arith in
    rw n at (count-more (3 * i) 3 (decode (rest t i)) (decode (rest t (i + 1))) bs (counted (decode t)) e l c.loop-a.invariant)

pub returns-in_err-last : goal.returns-in_err-last
returns-in_err-last c =
    let t = c.args.text.now in
    let k = c.in-Some.ensures.cases in
    let q : c.loop-a.a-index ≡ length c.in-Some.front.now = search rules in
    let z = sym c.as_chunks.ensures.back_len ∙ eqb-true (length c.as_chunks.result.1.now) 0 (sym c.if-not-is_empty.ensures) in
    let r = read-last t _ _ _ c.as_chunks.ensures.front c.as_chunks.ensures.front_len z k.0 k.1 in
    let e = r ∙ ap (λ x. before x (Some [])) (sym c.in_err-last.ensures) in
    c.from_residual-in_err-last.ensures ∙ count-none _ _ (counted (decode t)) e (rw q at c.loop-a.invariant)

pub returns : goal.returns
returns c =
    let t = c.args.text.now in
    let k = c.in-Some.ensures.cases in
    let q : c.loop-a.a-index ≡ length c.in-Some.front.now = search rules in
    let z = sym c.as_chunks.ensures.back_len ∙ eqb-true (length c.as_chunks.result.1.now) 0 (sym c.if-not-is_empty.ensures) in
    let r = read-last t _ _ _ c.as_chunks.ensures.front c.as_chunks.ensures.front_len z k.0 k.1 in
    let e = r ∙ ap (λ x. before x (Some [])) (sym c.in_ok-last.ensures) in
    rw c.bytes.ensures (count-last _ _ (held c.in_ok-last.last) (counted (decode t)) e (rw q at c.loop-a.invariant))
