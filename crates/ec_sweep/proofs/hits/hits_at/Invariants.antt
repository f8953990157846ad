-- The hits are those of the properties so far.
use Rattle.std.proofs.Common.{take}
use Rattle.ec_sweep.specs.Hits.{AreHits}
use Rattle.ec_sweep.proofs.hits.hits_at.Given as goal

abbrev pub invariant-loop-p : goal.invariant-loop-p
invariant-loop-p g l = AreHits g.T.Moment.rank l.entries.slots (g.T.Moment.rank l.at) l.dirty (take l.p-index l.due) l.removals l.hits
