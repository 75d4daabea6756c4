use Rattle.std.proofs.Common.{◌≡◌, ◌+◌, ◌*◌, ◌≤◌, min, length, ◌∙◌, rules, arith}
use Rattle.std.specs.Iterator.Adapters.{enumerate_source, enumerate_count}
use Rattle.std.specs.Slice.Iter.{chunks_rest}
use Rattle.octets.specs.Fronts.{at_front}
use Rattle.base64_text.specs.Base64.{encode}
use Rattle.base64_text.proofs.Steps.{Left, text_room, text-more, text-all}
use Rattle.base64_text.proofs.encoding.write_text.Goals as goal

pub slice_bounds-copy_from_slice-end : goal.slice_bounds-copy_from_slice-end
slice_bounds-copy_from_slice-end c =
    let s = c.in-Some.ensures.steps in
    let h : 4 * enumerate_count c.loop-i.i-iterator + 4 ≤ length c.loop-i.out = text_room _ c.loop-i.out _ _ s.0.1.2 c.loop-i.invariant.1 in
    let r : 4 * c.in-Some.i + 4 ≤ length c.loop-i.out = rw s.1 h in
    search rules

pub loop-i-preserved : goal.loop-i-preserved
loop-i-preserved c =
    let s = c.in-Some.ensures.steps in
    let n : length c.in-Some.part.now ≡ min 3 (length (chunks_rest (enumerate_source c.loop-i.i-iterator))) = rw c.loop-i.invariant.0 at s.0.1.1 in
    let a : 4 * enumerate_count c.next.new.self ≡ 4 * c.in-Some.i + 4 = omega (arith, s.1, s.2) in
    let l : Left (4 * c.in-Some.i) (encode (chunks_rest (enumerate_source c.loop-i.i-iterator))) c.loop-i.out (at_front (encode c.args.bytes.now) c.args.out.now) =
    rw s.1 c.loop-i.invariant.1 in (
      s.0.0 ∙ c.loop-i.invariant.0,
      rw a (text-more _ c.in-Some.part.now _ c.copy_from_slice.new.self c.loop-i.out _ (4 * c.in-Some.i) s.0.1.0 n s.0.1.2
          (c.copy_from_slice.ensures.after ∙ c.quad_of.ensures) l),
    )

pub returns : goal.returns
returns c = text-all _ c.loop-i.out _ _ c.in-None.ensures.steps.0.1.0 c.loop-i.invariant.1
