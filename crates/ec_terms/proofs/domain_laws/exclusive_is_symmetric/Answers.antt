use Rattle.ec_terms.proofs.DomainLemmas.{are_exclusive-comm, are_exclusive-itself}
use Rattle.ec_terms.proofs.domain_laws.exclusive_is_symmetric.Goals as goal

pub returns-clause-both_ways : goal.returns-clause-both_ways
returns-clause-both_ways c = are_exclusive-comm

pub returns-clause-not_itself : goal.returns-clause-not_itself
returns-clause-not_itself c = are_exclusive-itself
