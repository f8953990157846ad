use Rattle.std.proofs.Common.{◌≡◌, ◌-◌}
use Rattle.ec_check.specs.Faults.{first_from, is_unbound}
use Rattle.ec_check.proofs.rules.least_unbound.Given as goal

abbrev pub invariant-loop-variable : goal.invariant-loop-variable
invariant-loop-variable l = first_from (is_unbound l.rule) (16 - l.variable) l.variable ≡ first_from (is_unbound l.rule) 16 0
