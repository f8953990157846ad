use Rattle.ec_terms.proofs.OrderLemmas.{arg_eq-IsEquality, term_eq-IsEquality}
use Rattle.ec_terms.proofs.order_laws.equality_is_decided.Goals as goal

pub returns-clause-arguments : goal.returns-clause-arguments
returns-clause-arguments c = arg_eq-IsEquality

pub returns-clause-terms : goal.returns-clause-terms
returns-clause-terms c = term_eq-IsEquality
