-- The last of the first spans is the one in front of the place.
use Rattle.std.proofs.Common.{arith}
use Rattle.ec_intervals.proofs.Walking.{last-span}
use Rattle.ec_intervals.proofs.window.last_end.Goals as goal

pub returns : goal.returns
returns g c = last-span g.T.Moment.rank c.args.kept.now.front (g.I.SpanRow.spans c.args.kept.now.spans) c.args.count (omega (arith, c.if-count-eq0.false)) c.get.result c.get.ensures.span
