-- What is read of the row so far, and how many marks are left.
use Rattle.std.proofs.Common.{◌-◌, drop, length, option_map}
use Rattle.ec_rows.specs.PlainMarks.{plain_marks}
use Rattle.ec_intervals.proofs.Reading.{IsReadUpTo}
use Rattle.ec_intervals.proofs.draft.Draft.read_row.Given as goal

abbrev pub invariant-loop-i : goal.invariant-loop-i
invariant-loop-i g l = record {
  read : IsReadUpTo g.T.Moment.rank l.strong (option_map g.T.Moment.rank l.until) (drop l.first (plain_marks g.T.Moment.rank (g.M.MarkRow.marks l.row)))
      (drop l.i (plain_marks g.T.Moment.rank (g.M.MarkRow.marks l.row))) l.initial.self l.self;
}

abbrev pub decreases-loop-i : goal.decreases-loop-i
decreases-loop-i g l = length (g.M.MarkRow.marks l.row) - l.i
