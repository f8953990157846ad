-- The first break of what is left is that of all.
use Rattle.std.proofs.Common.{◌≡◌, ◌-◌, length, drop, find}
use Rattle.ec_axioms.specs.Marks.{mark_breaks}
use Rattle.ec_rows.specs.PlainMarks.{plain_marks}
use Rattle.ec_query.proofs.next_breaks.break_from.Given as goal

abbrev pub invariant-loop-i : goal.invariant-loop-i
invariant-loop-i g l =
    find (mark_breaks l.strong) (drop l.i (plain_marks g.T.Moment.rank (g.M.MarkRow.marks l.row)))
    ≡ find (mark_breaks l.strong) (drop l.fn.first (plain_marks g.T.Moment.rank (g.M.MarkRow.marks l.row)))

abbrev pub decreases-loop-i : goal.decreases-loop-i
decreases-loop-i g l = length (g.M.MarkRow.marks l.row) - l.i
