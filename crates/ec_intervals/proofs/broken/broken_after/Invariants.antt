-- The first broken begin is the first that the marks which are left break.
use Rattle.std.proofs.Common.{◌≡◌, ◌-◌, drop, length, option_map}
use Rattle.ec_rows.specs.PlainMarks.{plain_marks}
use Rattle.ec_intervals.specs.Table.{plain_begin}
use Rattle.ec_intervals.specs.Steps.{first_open}
use Rattle.ec_intervals.proofs.FirstBroken.{first_of}
use Rattle.ec_intervals.proofs.broken.broken_after.Given as goal

abbrev pub invariant-loop-i : goal.invariant-loop-i
invariant-loop-i g l =
    first_of l.strong (option_map (plain_begin g.T.Moment.rank) l.after) (option_map (plain_begin g.T.Moment.rank) l.begun) (drop l.i (plain_marks g.T.Moment.rank (g.M.MarkRow.marks l.row)))
    ≡ first_of l.strong (option_map (plain_begin g.T.Moment.rank) l.after) (first_open l.is_initial) (plain_marks g.T.Moment.rank (g.M.MarkRow.marks l.row))

abbrev pub decreases-loop-i : goal.decreases-loop-i
decreases-loop-i g l = length (g.M.MarkRow.marks l.row) - l.i
