-- A byte that is no digit stands in no run; a front that is too large makes the whole too large.
use Rattle.std.proofs.Common.{◌-◌, get_or, arith}
use Rattle.std.proofs.lemmas.Grind.{common_steps}
use Rattle.std.specs.Int.{IsInRange}
use Rattle.ec_moment.proofs.NumberLemmas.{is_digit_run-from, digit_of_run, digits_value_digit, digits_value-front_le, AllDigits-more}
use Rattle.ec_moment.proofs.number.read_digits.Goals as goal

pub returns-then-not-is_ascii_digit-clause-none : goal.returns-then-not-is_ascii_digit-clause-none
returns-then-not-is_ascii_digit-clause-none c = λ run.
    let digit = digit_of_run _ _ run c.loop-digit-test.true in grind arith

pub returns-in_err-checked_mul-clause-none : goal.returns-in_err-checked_mul-clause-none
returns-in_err-checked_mul-clause-none c = rw c.from_residual.ensures (λ run.
    let digit = digit_of_run _ _ run c.loop-digit-test.true in
    let front = digits_value-front_le _ _ (get_or c.args.digits.now c.loop-digit.digit-index 0 - 48) c.loop-digit-test.true digit (omega arith) in
    omega arith)

pub returns-in_err-value-clause-none : goal.returns-in_err-value-clause-none
returns-in_err-value-clause-none c = rw c.from_residual-in_err-value.ensures (λ run.
    let digit = digit_of_run _ _ run c.loop-digit-test.true in
    let front = digits_value-front_le _ _ (get_or c.args.digits.now c.loop-digit.digit-index 0 - 48) c.loop-digit-test.true digit (omega arith) in
    omega arith)

pub loop-digit-preserved : goal.loop-digit-preserved
loop-digit-preserved c =
    let digit : IsInRange 48 57 (get_or c.args.digits.now c.loop-digit.digit-index 0) = grind arith in
    let more = digits_value_digit _ _ (get_or c.args.digits.now c.loop-digit.digit-index 0 - 48) c.loop-digit-test.true digit (omega arith) in
    record {
      value_so_far = omega arith;
      digits_so_far = AllDigits-more _ _ c.loop-digit-test.true digit c.loop-digit.invariant.digits_so_far;
    }

pub returns-clause-run : goal.returns-clause-run
returns-clause-run c = is_digit_run-from c.args.digits.now (grind arith) (omega arith) (grind (arith, common_steps))
