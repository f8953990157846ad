-- What was found so far and what is left are all, and each interval in front of the place to begin at ends before the other one ends.
use Rattle.std.proofs.Common.{◌≡◌, ◌≤◌, ◌+◌, filter, drop, length}
use Rattle.ec_axioms.specs.Timeline.{Interval}
use Rattle.ec_commands.specs.Relations.{end_point, point_lt, stands_in}
use Rattle.ec_intervals.specs.Table.{members_at, plain_end, plain_interval, plain_intervals}
use Rattle.ec_compare.proofs.touching.count_touching.Given as goal

abbrev pub invariant-loop-place : goal.invariant-loop-place
invariant-loop-place g l = record {
  counted :
      length (filter (stands_in l.wanted (plain_interval g.T.Moment.rank l.left)) (drop l.fn.from (plain_intervals g.T.Moment.rank (members_at l.id.0 l.intervals))))
      ≡ l.count + length (filter (stands_in l.wanted (plain_interval g.T.Moment.rank l.left)) (drop l.place (plain_intervals g.T.Moment.rank (members_at l.id.0 l.intervals))));
  ended :
      l.from + length (filter (λ (j : Interval). point_lt (end_point j.until) (end_point (plain_end g.T.Moment.rank l.left.end))) (drop l.place (plain_intervals g.T.Moment.rank (members_at l.id.0 l.intervals))))
      ≤ l.fn.from + length (filter (λ (j : Interval). point_lt (end_point j.until) (end_point (plain_end g.T.Moment.rank l.left.end))) (drop l.fn.from (plain_intervals g.T.Moment.rank (members_at l.id.0 l.intervals))));
  few : l.count ≤ l.place;
  near : l.from ≤ l.place;
}
