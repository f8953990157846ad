-- A place that is no variable of the other side shares no value.
use Rattle.std.proofs.Common.{rules, arith}
use Rattle.std.proofs.lemmas.Grind.{common_steps}
use Rattle.ec_exclusive.proofs.keys.shared_value.Goals as goal

pub returns-else-has_variable-clause-value : goal.returns-else-has_variable-clause-value
returns-else-has_variable-clause-value c = search rules

pub get-requires : goal.get-requires
get-requires c = grind (arith, common_steps)
