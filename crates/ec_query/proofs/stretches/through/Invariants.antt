-- The property holds up to the end that is reached, and fewer intervals are left behind it.
use Rattle.ec_intervals.specs.Table.{members_at, plain_end, plain_intervals}
use Rattle.ec_query.proofs.StretchLemmas.{Reaches, left_from}
use Rattle.ec_query.proofs.stretches.through.Given as goal

abbrev pub invariant-loop-end : goal.invariant-loop-end
invariant-loop-end g l =
    Reaches (plain_intervals g.T.Moment.rank (members_at l.id.0 l.held.intervals.now)) (g.T.Moment.rank l.fn.from) (g.T.Moment.rank l.until) (plain_end g.T.Moment.rank l.end)

abbrev pub decreases-loop-end : goal.decreases-loop-end
decreases-loop-end g l = left_from (plain_intervals g.T.Moment.rank (members_at l.id.0 l.held.intervals.now)) (plain_end g.T.Moment.rank l.end)
