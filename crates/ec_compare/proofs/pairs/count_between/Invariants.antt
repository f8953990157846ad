-- The pairs so far and those of the intervals from the place on are all, and the walk of the next interval can begin where it is to.
use Rattle.std.proofs.Common.{◌≡◌, ◌≤◌, ◌+◌, Some, drop, length}
use Rattle.std.specs.Prelude.{slice_get}
use Rattle.ec_axioms.specs.Timeline.{Interval}
use Rattle.ec_commands.specs.declared.limits.TheConstants.{MOST_PAIRS}
use Rattle.ec_compare.specs.Stretches.{count_ahead, pairs_between}
use Rattle.ec_intervals.specs.Steps.{IsIntervalRow}
use Rattle.ec_intervals.specs.Table.{members_at, plain_intervals}
use Rattle.ec_compare.proofs.pairs.count_between.Given as goal

abbrev pub invariant-loop-place : goal.invariant-loop-place
invariant-loop-place g l = record {
  counted : IsIntervalRow (plain_intervals g.T.Moment.rank (members_at l.p.0 l.intervals)) → IsIntervalRow (plain_intervals g.T.Moment.rank (members_at l.q.0 l.intervals)) →
      length (pairs_between l.wanted (plain_intervals g.T.Moment.rank (members_at l.p.0 l.intervals)) (plain_intervals g.T.Moment.rank (members_at l.q.0 l.intervals)))
      ≡ l.count + length (pairs_between l.wanted (drop l.place (plain_intervals g.T.Moment.rank (members_at l.p.0 l.intervals))) (plain_intervals g.T.Moment.rank (members_at l.q.0 l.intervals)));
  few : l.count ≤ MOST_PAIRS;
  start : IsIntervalRow (plain_intervals g.T.Moment.rank (members_at l.p.0 l.intervals)) → IsIntervalRow (plain_intervals g.T.Moment.rank (members_at l.q.0 l.intervals)) →
      (i : Interval) → slice_get (plain_intervals g.T.Moment.rank (members_at l.p.0 l.intervals)) l.place ≡ Some i → l.from ≤ count_ahead i (plain_intervals g.T.Moment.rank (members_at l.q.0 l.intervals));
}
