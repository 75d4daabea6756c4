use Rattle.std.proofs.Common.{[], length, get_or, sym, refl, ap, ◌∙◌, arith, length-set, eqb-true}
use Rattle.numerals.proofs.Characters.{not_sized, read_none, pair-at, read_more, read_stops, read_done}
use Rattle.numerals.proofs.hexadecimal.digest.Goals as goal

pub returns-then-not-is_sized : goal.returns-then-not-is_sized
returns-then-not-is_sized c = not_sized c.args.text.now (sym c.if-not-is_sized.ensures)

pub loop-i-init : goal.loop-i-init
loop-i-init c = (refl, read_none c.args.text.now (sym c.if-not-is_sized.ensures))

pub returns-in_err-bytes : goal.returns-in_err-bytes
returns-in_err-bytes c =
    let l = eqb-true (length c.args.text.now) 64 (sym c.if-not-is_sized.ensures) in
    let n = c.as_chunks.ensures.front_len in
    let p = ap (λ ps. get_or ps c.loop-i.i []) c.as_chunks.ensures.front ∙ pair-at _ c.loop-i.i c.args.text.now (omega arith) in
    c.from_residual.ensures
    ∙ read_stops c.args.text.now _ c.loop-i.bytes c.loop-i.i _ (omega arith) p c.in_err-bytes.ensures c.loop-i.invariant.1

pub loop-i-preserved : goal.loop-i-preserved
loop-i-preserved c =
    let l = eqb-true (length c.args.text.now) 64 (sym c.if-not-is_sized.ensures) in
    let n = c.as_chunks.ensures.front_len in
    let p = ap (λ ps. get_or ps c.loop-i.i []) c.as_chunks.ensures.front ∙ pair-at _ c.loop-i.i c.args.text.now (omega arith) in (
      simp length-set c.loop-i.invariant.0,
      read_more c.args.text.now _ c.loop-i.bytes c.loop-i.i _ _ (omega arith) (omega arith) p c.in_ok-bytes.ensures c.loop-i.invariant.1,
    )

pub returns : goal.returns
returns c =
    let l = eqb-true (length c.args.text.now) 64 (sym c.if-not-is_sized.ensures) in
    let n = c.as_chunks.ensures.front_len in
    read_done c.args.text.now c.loop-i.bytes c.loop-i.i _ (omega arith) (omega arith) c.loop-i.invariant.1
