use Rattle.ec_terms.proofs.OrderLemmas.{term_cmp-total, term_cmp-Equal}
use Rattle.ec_terms.proofs.order_laws.terms_are_ordered.Goals as goal

pub returns-clause-total : goal.returns-clause-total
returns-clause-total c = term_cmp-total

pub returns-clause-exact : goal.returns-clause-exact
returns-clause-exact c = term_cmp-Equal
