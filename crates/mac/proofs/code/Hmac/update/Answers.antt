use Rattle.std.proofs.Common.{◌≡◌, ap, ◌∙◌}
use Rattle.mac.specs.Codes.{coding, keyed, take_in}
use Rattle.mac.proofs.Codes.{takes_twice}
use Rattle.mac.proofs.code.Hmac.update.Goals as goal

pub returns : goal.returns
returns c =
    let d = c.args.piece.now in
    let e : coding record { inner = c.update.new.self; outer = c.args.self.now.outer } ≡ take_in (coding c.args.self.now) d =
    cc c.update.ensures.after in
    record { after = e; law = λ k m a. e ∙ ap (λ x. take_in x d) a ∙ takes_twice (keyed k) m d }
