use Rattle.std.proofs.Common.{◌≡◌, ◌+◌, ◌-◌, ◌*◌, get_or, sym, arith}
use Rattle.numerals.proofs.Reading.{not_plain, from_zero, digit-more, digit_stops, digit_large, digits_done}
use Rattle.numerals.proofs.decimals.read_up_to.Goals as goal

pub returns-then-not-is_plain : goal.returns-then-not-is_plain
returns-then-not-is_plain c =
    record { value = not_plain (c.args.largest + 1) c.args.text.now (sym c.if-not-is_plain.ensures); within = tt }

pub loop-c-init : goal.loop-c-init
loop-c-init c = (omega arith, from_zero (c.args.largest + 1) c.args.text.now (sym c.if-not-is_plain.ensures))

pub returns-then-not-is_ascii_digit : goal.returns-then-not-is_ascii_digit
returns-then-not-is_ascii_digit c =
    record {
      value = digit_stops (c.args.largest + 1) c.loop-c.n c.loop-c.c-index c.args.text.now _ c.loop-c-test.true
          (sym c.if-not-is_ascii_digit.ensures.value) c.loop-c.invariant.1;
      within = tt;
    }

pub returns-then-next-from : goal.returns-then-next-from
returns-then-next-from c =
    let x = c.from.result * 10 + c.from-in-loop-c.result in
    let e : x ≡ c.loop-c.n * 10 + (get_or c.args.text.now c.loop-c.c-index 0 - 48) = omega arith in
    record {
      value = digit_large (c.args.largest + 1) c.loop-c.n c.loop-c.c-index x c.args.text.now _ c.loop-c-test.true
          (sym c.if-not-is_ascii_digit.ensures.value) e (omega arith) c.loop-c.invariant.1;
      within = tt;
    }

pub loop-c-preserved : goal.loop-c-preserved
loop-c-preserved c =
    let x = c.from.result * 10 + c.from-in-loop-c.result in
    let e : x ≡ c.loop-c.n * 10 + (get_or c.args.text.now c.loop-c.c-index 0 - 48) = omega arith in (
      omega arith,
      digit-more (c.args.largest + 1) c.loop-c.n c.loop-c.c-index x c.args.text.now _ c.loop-c-test.true
          (sym c.if-not-is_ascii_digit.ensures.value) e c.loop-c.invariant.1,
    )

pub returns : goal.returns
returns c =
    record {
      value = digits_done (c.args.largest + 1) c.loop-c.n c.loop-c.c-index c.args.text.now _ c.loop-c-test.false (omega arith)
          c.loop-c.invariant.1;
      within = c.loop-c.invariant.0;
    }
