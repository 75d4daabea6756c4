use Rattle.std.proofs.Common.{◌≡◌, is_some, ap, ◌∙◌}
use Rattle.base64_text.specs.Base64.{decode}
use Rattle.base64_text.proofs.Back.{some-counted, decides}
use Rattle.base64_text.proofs.is_canonical.Goals as goal

pub returns : goal.returns
returns c =
    let t = c.args.text.now in
    let e : c.is_some.result ≡ is_some (decode t) = c.is_some.ensures ∙ ap is_some c.decoded_length.ensures ∙ some-counted (decode t) in
    record { value = e; law = decides t c.is_some.result e }
