-- The digits so far are digits, and their value is what has been read.
use Rattle.std.proofs.Common.{◌≡◌, take}
use Rattle.std.specs.Str.Parse.{AllDigits, digits_value}
use Rattle.ec_moment.proofs.number.read_digits.Given as goal

abbrev pub invariant-loop-digit : goal.invariant-loop-digit
invariant-loop-digit l = record {
  value_so_far : l.value ≡ digits_value 10 (take l.digit-index l.digits);
  digits_so_far : AllDigits 10 (take l.digit-index l.digits);
}
