-- No clashes are in order.
use Rattle.std.proofs.Common.{ap}
use Rattle.ec_rows.specs.Ordered.{is_ascending}
use Rattle.ec_points.specs.Clashes.{are_clashes}
use Rattle.ec_points.proofs.clashes.Clashes.new.Goals as goal

pub invariant_of-result : goal.invariant_of-result
unfolding is_ascending
invariant_of-result g c = ap (are_clashes g.T.Moment.rank) c.new.ensures
