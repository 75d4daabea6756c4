use Rattle.std.proofs.Common.{arith}
use Rattle.numerals.proofs.Steps.{short, room, first, more}
use Rattle.numerals.proofs.writing.+put.Goals as goal

pub returns-then-n-lt10 : goal.returns-then-n-lt10
returns-then-n-lt10 t c =
    let w = first c.args.n c.last_digit.result c.args.out.now c.if-n-lt10.true (omega arith) c.last_digit.ensures in
    record { value = w.value; after = w.after; front = w.front; bound = w.bound }

pub bounds-out-at : goal.bounds-out-at
bounds-out-at t c = omega (arith, c.put-at.ensures.value, room c.args.n (omega arith) (omega arith), short c.args.n (omega arith))

pub returns : goal.returns
returns t c =
    let w = more c.args.n c.put-at.result c.last_digit-2.result c.args.out.now c.put-at.new.out c.if-n-lt10.false (omega arith) c.told-out
    c.put-at.ensures.value c.put-at.ensures.after c.last_digit-2.ensures in
    record { value = w.value; after = w.after; front = w.front; bound = w.bound }
