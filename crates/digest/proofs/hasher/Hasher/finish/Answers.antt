use Rattle.std.proofs.Common.{◌≡◌, ap, ◌∙◌, arith}
use Rattle.digest.specs.Running.{finished}
use Rattle.digest.specs.Sha256.{be8, zeros}
use Rattle.digest.specs.Stands.{running}
use Rattle.digest.proofs.Pieces.{comes_to_digest}
use Rattle.digest.proofs.Steps.{marker, finish_all}
use Rattle.digest.proofs.hasher.Hasher.finish.Goals as goal

pub returns : goal.returns
unfolding be8 zeros
returns c =
    let e : c.output.result ≡ finished (running c.args.self) =
    c.output.ensures
    ∙ finish_all (running c.args.self) (running c.update.new.self) (running c.update-2.new.self) _ _
    (marker _ _ (omega arith) (omega arith)) c.to_be_bytes.ensures c.update.ensures.after c.update-2.ensures.after in
    record { value = e; law = λ m a. e ∙ ap finished a ∙ comes_to_digest m }
