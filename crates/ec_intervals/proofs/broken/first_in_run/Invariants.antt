-- No begin was found so far, and the open one is that behind the marks so far.
use Rattle.std.proofs.Common.{◌≡◌, false, is_some, take, option_map}
use Rattle.ec_rows.specs.PlainMarks.{plain_marks}
use Rattle.ec_intervals.specs.Steps.{open_through}
use Rattle.ec_intervals.specs.Table.{plain_begin}
use Rattle.ec_intervals.proofs.FirstBroken.{first_of}
use Rattle.ec_intervals.proofs.broken.first_in_run.Given as goal

abbrev pub invariant-loop-mark : goal.invariant-loop-mark
invariant-loop-mark g l = record {
  none : is_some (first_of l.strong (option_map (plain_begin g.T.Moment.rank) l.after) (option_map (plain_begin g.T.Moment.rank) l.initial.begun) (take l.mark-index (plain_marks g.T.Moment.rank l.marks))) ≡ false;
  opened : option_map (plain_begin g.T.Moment.rank) l.begun ≡ open_through l.strong (option_map (plain_begin g.T.Moment.rank) l.initial.begun) (take l.mark-index (plain_marks g.T.Moment.rank l.marks));
}
