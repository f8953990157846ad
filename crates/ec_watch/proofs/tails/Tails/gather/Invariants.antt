-- The tails are those of the properties so far.
use Rattle.std.proofs.Common.{take}
use Rattle.ec_watch.specs.Tails.{AreGathered}
use Rattle.ec_watch.proofs.tails.Tails.gather.Given as goal

abbrev pub invariant-loop-i : goal.invariant-loop-i
invariant-loop-i g l = AreGathered g.T.Moment.rank l.watched l.props l.intervals (take l.i l.touched) l.self-inside.tails.items
