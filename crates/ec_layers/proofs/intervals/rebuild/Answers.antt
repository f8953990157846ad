-- There is one interval more than marks at the most.
use Rattle.std.proofs.Common.{arith}
use Rattle.ec_intervals.proofs.Written.{length-spans_of}
use Rattle.ec_layers.proofs.intervals.rebuild.Goals as goal

pub rebuild-requires-clause-room : goal.rebuild-requires-clause-room
rebuild-requires-clause-room g c =
    let most = length-spans_of g.T.Moment.rank (g.M.MarkRow.marks c.args.row.now) c.args.strong c.args.initial c.prepare.ensures.row in
    omega (arith, most, c.prepare.ensures.room)
