-- Whether a member is at most at the time.
use Rattle.std.proofs.Common.{rules}
use Rattle.ec_sweep.proofs.Orders.{is_le-by_order}
use Rattle.ec_sweep.proofs.runs.fn.count_added.partition_point.Goals as goal

pub returns : goal.returns
returns g c = search (rules, is_le-by_order c.order.result (g.T.Moment.rank c.args.event.now.at) (g.T.Moment.rank c.captures.at) c.order.ensures.answer)
