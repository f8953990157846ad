-- Nothing is in order.
use Rattle.std.proofs.Common.{ap}
use Rattle.ec_rows.specs.Ordered.{is_ascending}
use Rattle.ec_numbered.specs.Due.{are_in_order}
use Rattle.ec_numbered.proofs.agenda.Agenda.clear.Goals as goal

pub invariant_of-self : goal.invariant_of-self
unfolding is_ascending
invariant_of-self g c = ap (are_in_order g.T.Moment.rank) c.clear.ensures.items
