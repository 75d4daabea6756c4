use Rattle.std.proofs.Common.{◌-◌, ◌≤◌, length, Ok, Err, sym, refl, ap, ◌∙◌, arith}
use Rattle.std.proofs.lemmas.Result.{err_from_is_err_and}
use Rattle.kinds.specs.declared.refusal.MessageRefusal.TheVariants.{Unopened}
use Rattle.message.specs.Messages.{opens, by_opened}
use Rattle.message.proofs.Opening.{received-by_admitted, opens-length, not_opened, opened}
use Rattle.message.proofs.Back.{settled}
use Rattle.message.proofs.taking.Awaited.receive.Goals as goal

pub returns-in_err-admitted : goal.returns-in_err-admitted
returns-in_err-admitted g c =
    let x = c.args in
    let k = x.seal.now in
    let w = received-by_admitted (g.S.Seal.opening k) x.self.now.kinds.now x.self.now.last x.message.now x.text.now _ c.if-text-lt4096.false
    c.in_err-admitted.ensures.value in
    let p = err_from_is_err_and c.from_residual.result c.from_residual.ensures.1 in
    let z = settled (g.S.Seal.sealing k) (g.S.Seal.opening k) (g.met.S.Seal.reopens k) (g.met.S.Seal.level k) (g.met.S.Seal.twelve k)
    x.self.now.kinds.now x.self.now.last x.message.now x.text.now _ _ _ w (p.1 ∙ ap (λ e. Err e) p.2) refl in
    record { answer = z.0; text = z.1; back = z.2 }

pub returns-in_err-open_part : goal.returns-in_err-open_part
returns-in_err-open_part g c =
    let x = c.args in
    let k = x.seal.now in
    let o = g.S.Seal.opening k in
    let m = x.message.now in
    let d = c.in_ok-admitted.admitted in
    let w = received-by_admitted o x.self.now.kinds.now x.self.now.last m x.text.now (Ok d) c.if-text-lt4096.false c.in_ok-admitted.ensures.value in
    let b = c.in_ok-admitted.ensures.bounds in
    let n : d.end - 28 ≤ length x.text.now = omega arith in
    let q = not_opened d (opens o m d.end) _ x.text.now (opens-length o m d.end b.0 b.1 (g.met.S.Seal.leveled k)) n
    (sym c.in_err-open_part.ensures.told) in
    let p = err_from_is_err_and c.from_residual-in_err-open_part.result c.from_residual-in_err-open_part.ensures.1 in
    let z = settled (g.S.Seal.sealing k) o (g.met.S.Seal.reopens k) (g.met.S.Seal.level k) (g.met.S.Seal.twelve k)
    x.self.now.kinds.now x.self.now.last m x.text.now _ _ (Err Unopened) (w ∙ q.0) (p.1 ∙ ap (λ e. Err e) p.2) (c.open_part.ensures.text ∙ q.1) in
    record { answer = z.0; text = z.1; back = z.2 }

pub returns : goal.returns
returns g c =
    let x = c.args in
    let k = x.seal.now in
    let o = g.S.Seal.opening k in
    let m = x.message.now in
    let d = c.in_ok-admitted.admitted in
    let w = received-by_admitted o x.self.now.kinds.now x.self.now.last m x.text.now (Ok d) c.if-text-lt4096.false c.in_ok-admitted.ensures.value in
    let b = c.in_ok-admitted.ensures.bounds in
    let q = opened d (opens o m d.end) (d.end - 28) x.text.now (opens-length o m d.end b.0 b.1 (g.met.S.Seal.leveled k))
    (sym c.in_ok-open_part.ensures.told) in
    let z = settled (g.S.Seal.sealing k) o (g.met.S.Seal.reopens k) (g.met.S.Seal.level k) (g.met.S.Seal.twelve k)
    x.self.now.kinds.now x.self.now.last m x.text.now _ _ (by_opened d (opens o m d.end)) w (sym q.0) (c.open_part.ensures.text ∙ q.1) in
    record { answer = z.0; text = z.1; back = z.2 }
