use Rattle.std.proofs.Common.{◌≡◌, ap, ◌∙◌}
use Rattle.mac.specs.Codes.{coding, keyed}
use Rattle.mac.specs.Hmac.{inner_key, outer_key, masked}
use Rattle.mac.proofs.Codes.{keyed-none}
use Rattle.mac.proofs.code.Hmac.new.Goals as goal

pub returns : goal.returns
unfolding keyed inner_key outer_key
returns c =
    let k = c.args.key.now in
    let i : c.masked.result ≡ inner_key k = c.masked.ensures ∙ ap (λ b. masked 0x36 b) c.key_block-block.ensures in
    let o : c.masked-2.result ≡ outer_key k = c.masked-2.ensures ∙ ap (λ b. masked 0x5c b) c.key_block-block.ensures in
    let e = c.update.ensures.after in
    let f = c.update-2.ensures.after in
    let g = c.new-inner.ensures.value in
    let h = c.new-outer.ensures.value in
    let v : coding record { inner = c.update.new.self; outer = c.update-2.new.self } ≡ keyed k = cc in
    record { value = v; law = v ∙ keyed-none k }
