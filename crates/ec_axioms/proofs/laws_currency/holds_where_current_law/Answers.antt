-- A timeline holds where it is current and ends well.
use Rattle.ec_axioms.proofs.HoldingLaws.{HoldsWhereCurrent-law}
use Rattle.ec_axioms.proofs.laws_currency.holds_where_current_law.Goals as goal

pub returns : goal.returns
returns c = HoldsWhereCurrent-law
