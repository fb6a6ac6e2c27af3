use Rattle.std.proofs.Common.{◌∙◌, sym, arith}
use Rattle.dds_script.proofs.NumberLaws.{digits_more, no_digit, number_of, too_much, value_more}
use Rattle.dds_script.proofs.number.decimal.Goals as goal

pub returns-in_err-checked_mul : goal.returns-in_err-checked_mul
returns-in_err-checked_mul c = record {
  read = c.from_residual.ensures ∙ sym (too_much c.args.word.now c.loop-digit.digit-index c.loop-digit.number
      (omega (arith, c.loop-digit-test.true)) c.loop-digit.invariant.value (omega (arith, c.in_err-checked_mul.ensures)));
}

pub returns-in_err-decimal_digit : goal.returns-in_err-decimal_digit
returns-in_err-decimal_digit c = record {
  read = c.from_residual-in_err-decimal_digit.ensures ∙ sym (no_digit c.args.word.now c.loop-digit.digit-index
      (omega (arith, c.loop-digit-test.true)) (rw c.as_bytes-digit-items.ensures.value at c.in_err-decimal_digit.ensures.none));
}

pub returns-in_err-number : goal.returns-in_err-number
returns-in_err-number c =
    let digit = rw c.as_bytes-digit-items.ensures.value at c.in_ok-decimal_digit.ensures.digit in
    record {
      read = c.from_residual-in_err-number.ensures ∙ sym (too_much c.args.word.now c.loop-digit.digit-index c.loop-digit.number
          (omega (arith, c.loop-digit-test.true)) c.loop-digit.invariant.value
          (omega (arith, c.in_err-number.ensures, c.in_ok-checked_mul.ensures, digit.1)));
    }

pub loop-digit-preserved : goal.loop-digit-preserved
loop-digit-preserved c =
    let digit = rw c.as_bytes-digit-items.ensures.value at c.in_ok-decimal_digit.ensures.digit in
    record {
      some = c.loop-digit.invariant.some;
      same = c.loop-digit.invariant.same;
      small = omega (arith, c.in_ok-number.ensures);
      digits = digits_more c.args.word.now c.loop-digit.digit-index (omega (arith, c.loop-digit-test.true))
          c.loop-digit.invariant.digits digit.0;
      value = omega (
        arith,
        value_more c.args.word.now c.loop-digit.digit-index (omega (arith, c.loop-digit-test.true)),
        c.loop-digit.invariant.value,
        c.in_ok-checked_mul.ensures,
        digit.1,
        c.in_ok-number.ensures,
      );
    }

pub returns : goal.returns
returns c = record {
  read = sym (number_of c.args.word.now c.loop-digit.digit-index c.loop-digit.number c.loop-digit.invariant.some
      (omega (arith, c.loop-digit-test.false)) c.loop-digit.invariant.small c.loop-digit.invariant.digits
      c.loop-digit.invariant.value);
}
