-- Whether a member is at most at the time.
use Rattle.std.proofs.Common.{◌∙◌}
use Rattle.ec_sweep.proofs.Orders.{is_le-by_order}
use Rattle.ec_sweep.proofs.runs.fn.count_removals.partition_point.Goals as goal

pub returns : goal.returns
returns g c = c.is_le.ensures ∙ is_le-by_order c.order.result (g.T.Moment.rank c.args.removal.now.at) (g.T.Moment.rank c.captures.at) c.order.ensures.answer
