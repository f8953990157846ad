use Rattle.ec_terms.proofs.Exclusion.{both_fit-FitTogether, are_exclusive-OneExcludes}
use Rattle.ec_terms.proofs.domain_laws.exclusive_is_under_one_binding.Goals as goal

pub returns-clause-patterns : goal.returns-clause-patterns
returns-clause-patterns c = both_fit-FitTogether

pub returns-clause-theory : goal.returns-clause-theory
returns-clause-theory c = are_exclusive-OneExcludes
