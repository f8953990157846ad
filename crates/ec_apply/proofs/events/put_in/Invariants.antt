use Rattle.std.proofs.Common.{length}
use Rattle.ec_apply.proofs.PutIn.{IsPutSoFar}
use Rattle.ec_apply.proofs.events.put_in.Given as goal

abbrev pub invariant-loop-event : goal.invariant-loop-event
invariant-loop-event g l = IsPutSoFar g.T.Moment.rank l.initial.add l.initial.lists l.initial.bits l.initial.store.events l.initial.entries.slots l.add l.lists l.bits l.store l.entries

abbrev pub decreases-loop-event : goal.decreases-loop-event
decreases-loop-event g l = length l.add
