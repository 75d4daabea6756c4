use Rattle.std.proofs.Common.{◌≡◌, ◌*◌}
use Rattle.std.specs.Iterator.Adapters.{enumerate_source, enumerate_count}
use Rattle.std.specs.Slice.Iter.{chunks_rest, chunks_size}
use Rattle.octets.specs.Fronts.{at_front}
use Rattle.base64_text.specs.Base64.{encode}
use Rattle.base64_text.proofs.Steps.{Left}
use Rattle.base64_text.proofs.encoding.write_text.Given as goal

abbrev pub invariant-loop-i : goal.invariant-loop-i
invariant-loop-i l =
    (chunks_size (enumerate_source l.i-iterator) ≡ 3)
    × Left (4 * enumerate_count l.i-iterator) (encode (chunks_rest (enumerate_source l.i-iterator))) l.out (at_front (encode l.bytes) l.initial.out)
