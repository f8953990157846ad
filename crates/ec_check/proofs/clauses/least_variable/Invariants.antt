use Rattle.std.proofs.Common.{◌≡◌, ◌-◌}
use Rattle.ec_terms.specs.Binding.{stands_in}
use Rattle.ec_check.specs.Faults.{first_from}
use Rattle.ec_check.proofs.clauses.least_variable.Given as goal

abbrev pub invariant-loop-variable : goal.invariant-loop-variable
invariant-loop-variable l = first_from (λ v. stands_in v l.pattern) (16 - l.variable) l.variable ≡ first_from (λ v. stands_in v l.pattern) 16 0
