-- The definition computes.
use Rattle.std.proofs.Common.{refl}
use Rattle.ec_moment.specs.Number.{number_value}
use Rattle.ec_moment.proofs.laws.number_edges_law.Goals as goal

pub returns : goal.returns
unfolding number_value
returns c = record {
  most = refl;
  above_most = refl;
  least = refl;
  below_least = refl;
  twenty_digits = refl;
  twenty_one_digits = refl;
  largest_run = refl;
  minus_zero = refl;
  minus_alone = refl;
  two_minuses = refl;
  empty = refl;
  plus = refl;
  blank_before = refl;
  blank_behind = refl;
  letter = refl;
}
