use Rattle.std.proofs.Common.{arith}
use Rattle.base64_text.proofs.Steps.{length-encode}
use Rattle.base64_text.proofs.encoding.encoded_length.Goals as goal

pub returns : goal.returns
returns c =
    let e = length-encode c.args.bytes.now in
    omega (arith, c.div_ceil.ensures)
