-- What was found so far and what is left are all.
use Rattle.std.proofs.Common.{◌≡◌, ◌≤◌, ◌+◌, length}
use Rattle.ec_compare.specs.Lists.{missing_behind}
use Rattle.ec_intervals.specs.Steps.{IsIntervalRow}
use Rattle.ec_intervals.specs.Table.{plain_intervals}
use Rattle.ec_compare.proofs.missing.count_missing.Given as goal

abbrev pub invariant-loop-place : goal.invariant-loop-place
invariant-loop-place g l = record {
  counted : IsIntervalRow (plain_intervals g.T.Moment.rank (g.B.Listed.members l.those)) →
      length (missing_behind l.fn.from (plain_intervals g.T.Moment.rank (g.B.Listed.members l.those)) (plain_intervals g.T.Moment.rank (g.A.Listed.members l.these)))
      ≡ l.count + length (missing_behind l.place (plain_intervals g.T.Moment.rank (g.B.Listed.members l.those)) (plain_intervals g.T.Moment.rank (g.A.Listed.members l.these)));
  few : l.count ≤ l.place;
}
