-- Behind a mark a begin is open where it initiates, and in front of all marks where the property is initial.
use Rattle.std.proofs.Common.{arith}
use Rattle.ec_intervals.proofs.Walking.{is_open-none, is_open-last}
use Rattle.ec_intervals.proofs.window.is_open_behind.Goals as goal

pub returns-then-count-eq0 : goal.returns-then-count-eq0
returns-then-count-eq0 g c = is_open-none g.T.Moment.rank (g.M.MarkRow.marks c.args.row.now) c.args.strong c.args.initial c.args.count c.if-count-eq0.true

pub returns : goal.returns
returns g c =
    is_open-last g.T.Moment.rank (g.M.MarkRow.marks c.args.row.now) c.args.strong c.args.initial c.get.ensures.row c.args.count (omega (arith, c.if-count-eq0.false)) c.get.result c.get.ensures.mark
