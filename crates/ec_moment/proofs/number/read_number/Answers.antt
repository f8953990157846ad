-- Digits that are too many or too large spell no number, and others do exactly where their value is in range.
use Rattle.std.proofs.Common.{sym, ◌∙◌}
use Rattle.ec_moment.proofs.NumberLemmas.{number_value-of_run, number_value-too_large}
use Rattle.ec_moment.proofs.number.read_number.Goals as goal

pub returns-in_err-read_digits : goal.returns-in_err-read_digits
returns-in_err-read_digits c = record {
  exact = c.from_residual.ensures ∙ sym (number_value-too_large _ _ c.split_sign-is_negative.ensures.rest c.in_err-read_digits.ensures.none);
}

pub returns : goal.returns
returns c = record {
  exact = number_value-of_run _ _ _ _ _ c.split_sign-is_negative.ensures.sign c.split_sign-is_negative.ensures.rest
      c.in_ok-read_digits.ensures.value c.in_ok-read_digits.ensures.run c.signed.ensures;
}
