use Rattle.std.proofs.Common.{◌≡◌, ap, ◌∙◌}
use Rattle.digest.specs.Running.{absorb, finished}
use Rattle.digest.specs.Stands.{running}
use Rattle.mac.specs.Codes.{coding, code}
use Rattle.mac.proofs.Codes.{comes_to_hmac}
use Rattle.mac.proofs.code.Hmac.finish.Goals as goal

pub returns : goal.returns
unfolding code
returns c =
    let e : c.finish-2.result ≡ code (coding c.args.self) =
    c.finish-2.ensures.value
    ∙ ap finished (c.update.ensures.after ∙ ap (λ x. absorb (running c.args.self.outer) x) c.finish.ensures.value) in
    record { value = e; law = λ k m a. e ∙ ap code a ∙ comes_to_hmac k m }
