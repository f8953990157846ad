-- What is read of the marks so far.
use Rattle.std.proofs.Common.{drop, option_map}
use Rattle.ec_rows.specs.PlainMarks.{plain_marks}
use Rattle.ec_intervals.proofs.Reading.{IsReadUpTo}
use Rattle.ec_intervals.proofs.draft.Draft.read_run.Given as goal

abbrev pub invariant-loop-mark : goal.invariant-loop-mark
invariant-loop-mark g l = record {
  read : IsReadUpTo g.T.Moment.rank l.strong (option_map g.T.Moment.rank l.until) (plain_marks g.T.Moment.rank l.marks) (drop l.mark-index (plain_marks g.T.Moment.rank l.marks)) l.initial.self l.self;
}
