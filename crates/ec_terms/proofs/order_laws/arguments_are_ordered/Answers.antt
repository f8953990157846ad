use Rattle.ec_terms.proofs.OrderLemmas.{arg_cmp-total, arg_cmp-Equal}
use Rattle.ec_terms.proofs.order_laws.arguments_are_ordered.Goals as goal

pub returns-clause-total : goal.returns-clause-total
returns-clause-total c = arg_cmp-total

pub returns-clause-exact : goal.returns-clause-exact
returns-clause-exact c = arg_cmp-Equal
