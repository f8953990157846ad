-- The pairs of the intervals from the place on are left to write, and the walk of the next interval can begin where it is to.
use Rattle.std.proofs.Common.{◌≡◌, ◌≤◌, Some, drop}
use Rattle.std.specs.Prelude.{slice_get}
use Rattle.ec_axioms.specs.Timeline.{Interval}
use Rattle.ec_commands.specs.QueryTexts.{pair_text}
use Rattle.ec_compare.specs.Stretches.{count_ahead, pairs_between}
use Rattle.ec_intervals.specs.Steps.{IsIntervalRow}
use Rattle.ec_intervals.specs.Table.{members_at, plain_intervals}
use Rattle.ec_query.specs.Members.{members_text}
use Rattle.ec_query.proofs.WritingLemmas.{IsLeft}
use Rattle.ec_compare.proofs.pairs.write_between.Given as goal

abbrev pub invariant-loop-place : goal.invariant-loop-place
invariant-loop-place g l = record {
  left : IsIntervalRow (plain_intervals g.T.Moment.rank (members_at l.p.0 l.intervals)) → IsIntervalRow (plain_intervals g.T.Moment.rank (members_at l.q.0 l.intervals)) →
      IsLeft g.K.Sink.stands g.K.Sink.faults l.initial.out l.out
      (members_text (pair_text g.T.Moment.canon) (pairs_between l.wanted (plain_intervals g.T.Moment.rank (members_at l.p.0 l.intervals)) (plain_intervals g.T.Moment.rank (members_at l.q.0 l.intervals))))
      (members_text (pair_text g.T.Moment.canon) (pairs_between l.wanted (drop l.place (plain_intervals g.T.Moment.rank (members_at l.p.0 l.intervals))) (plain_intervals g.T.Moment.rank (members_at l.q.0 l.intervals))));
  quiet : g.K.Sink.faults l.out ≡ g.K.Sink.faults l.initial.out;
  start : IsIntervalRow (plain_intervals g.T.Moment.rank (members_at l.p.0 l.intervals)) → IsIntervalRow (plain_intervals g.T.Moment.rank (members_at l.q.0 l.intervals)) →
      (i : Interval) → slice_get (plain_intervals g.T.Moment.rank (members_at l.p.0 l.intervals)) l.place ≡ Some i → l.from ≤ count_ahead i (plain_intervals g.T.Moment.rank (members_at l.q.0 l.intervals));
}
