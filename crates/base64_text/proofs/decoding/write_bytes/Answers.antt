use Rattle.std.proofs.Common.{◌≡◌, ◌+◌, ◌*◌, ◌<◌, ◌≤◌, [], length, Some, sym, ap, ◌∙◌, arith, rules}
use Rattle.base64_text.specs.Base64.{before, decode}
use Rattle.base64_text.specs.Groups.{held}
use Rattle.base64_text.proofs.Steps.{rest, read-front, read-last, left-found, even, not_read, bytes-room, bytes-more, bytes-all, nothing}
use Rattle.base64_text.proofs.decoding.write_bytes.Goals as goal

pub returns-in_default : goal.returns-in_default
returns-in_default c = nothing c.args.text.now c.args.out.now (sym c.as_chunks.ensures.front_len ∙ c.in_default.ensures.cases) c.requires

pub unreachable-requires : goal.unreachable-requires
unreachable-requires c =
    let t = c.args.text.now in
    let i = c.loop-i.i in
    let k = c.in-Some.ensures.cases in
    let h : i < length c.in-Some.front.now = search rules in
    let z = even t (left-found (decode t) c.args.out.now c.requires).0 in
    let r = read-front t _ _ _ c.as_chunks.ensures.front c.as_chunks.ensures.front_len z k.0 k.1 i h in
    let e = r ∙ ap (λ x. before x (decode (rest t (i + 1)))) (sym c.three_bytes.ensures ∙ c.in_default-three_bytes.is) in
    not_read (decode (rest t i)) (decode (rest t (i + 1))) e c.loop-i.invariant.0

pub slice_bounds-copy_from_slice-end : goal.slice_bounds-copy_from_slice-end
slice_bounds-copy_from_slice-end c =
    let t = c.args.text.now in
    let i = c.loop-i.i in
    let k = c.in-Some.ensures.cases in
    let bs = c.in-Some-three_bytes.bytes in
    let h : i < length c.in-Some.front.now = search rules in
    let z = even t (left-found (decode t) c.args.out.now c.requires).0 in
    let r = read-front t _ _ _ c.as_chunks.ensures.front c.as_chunks.ensures.front_len z k.0 k.1 i h in
    let e = r ∙ ap (λ x. before x (decode (rest t (i + 1)))) (sym c.three_bytes.ensures ∙ c.in-Some-three_bytes.is) in
    let l : length bs ≡ 3 = search rules in
    let m = bytes-room (3 * i) (decode (rest t i)) (decode (rest t (i + 1))) bs c.loop-i.out _ e c.loop-i.invariant in
    let fit : 3 * i + 3 ≤ length c.loop-i.out = omega (arith, l, m) in
    search rules

pub loop-i-preserved : goal.loop-i-preserved
loop-i-preserved c =
    let t = c.args.text.now in
    let i = c.loop-i.i in
    let k = c.in-Some.ensures.cases in
    let bs = c.in-Some-three_bytes.bytes in
    let h : i < length c.in-Some.front.now = search rules in
    let z = even t (left-found (decode t) c.args.out.now c.requires).0 in
    let r = read-front t _ _ _ c.as_chunks.ensures.front c.as_chunks.ensures.front_len z k.0 k.1 i h in
    let e = r ∙ ap (λ x. before x (decode (rest t (i + 1)))) (sym c.three_bytes.ensures ∙ c.in-Some-three_bytes.is) in
    let l : length bs ≡ 3 = search rules in
    let n : 3 * (i + 1) ≡ 3 * i + 3 = omega arith in
    rw n (bytes-more (3 * i) (decode (rest t i)) (decode (rest t (i + 1))) bs c.loop-i.out _ e c.loop-i.invariant 3 c.copy_from_slice.new.self l c.copy_from_slice.ensures.after)

pub unreachable-requires-in_default-last_group : goal.unreachable-requires-in_default-last_group
unreachable-requires-in_default-last_group c =
    let t = c.args.text.now in
    let k = c.in-Some.ensures.cases in
    let q : c.loop-i.i ≡ length c.in-Some.front.now = search rules in
    let z = even t (left-found (decode t) c.args.out.now c.requires).0 in
    let r = read-last t _ _ _ c.as_chunks.ensures.front c.as_chunks.ensures.front_len z k.0 k.1 in
    let e = r ∙ ap (λ x. before x (Some [])) (sym c.in_default-last_group.ensures) in
    not_read _ (Some []) e (rw q at c.loop-i.invariant.0)

pub slice_bounds-copy_from_slice-end-2 : goal.slice_bounds-copy_from_slice-end-2
slice_bounds-copy_from_slice-end-2 c =
    let t = c.args.text.now in
    let k = c.in-Some.ensures.cases in
    let q : c.loop-i.i ≡ length c.in-Some.front.now = search rules in
    let z = even t (left-found (decode t) c.args.out.now c.requires).0 in
    let r = read-last t _ _ _ c.as_chunks.ensures.front c.as_chunks.ensures.front_len z k.0 k.1 in
    let e = r ∙ ap (λ x. before x (Some [])) (sym c.in-Some-last_group.ensures) in
    let m = bytes-room (3 * length c.in-Some.front.now) _ (Some []) (held c.in-Some-last_group.last) c.loop-i.out _ e (rw q at c.loop-i.invariant) in
    let fit : 3 * length c.in-Some.front.now + length c.bytes-bytes.result.now ≤ length c.loop-i.out = rw c.bytes-bytes.ensures m in
    search rules

pub returns : goal.returns
returns c =
    let t = c.args.text.now in
    let k = c.in-Some.ensures.cases in
    let q : c.loop-i.i ≡ length c.in-Some.front.now = search rules in
    let z = even t (left-found (decode t) c.args.out.now c.requires).0 in
    let r = read-last t _ _ _ c.as_chunks.ensures.front c.as_chunks.ensures.front_len z k.0 k.1 in
    let e = r ∙ ap (λ x. before x (Some [])) (sym c.in-Some-last_group.ensures) in
    let b = bytes-more (3 * length c.in-Some.front.now) _ (Some []) (held c.in-Some-last_group.last) c.loop-i.out _ e (rw q at c.loop-i.invariant)
    (length c.bytes-bytes.result.now) c.copy_from_slice-2.new.self (ap length (sym c.bytes-bytes.ensures)) (c.copy_from_slice-2.ensures.after ∙ c.bytes-bytes.ensures) in
    bytes-all (decode t) _ _ c.args.out.now c.requires b.1
