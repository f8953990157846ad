use Rattle.ec_apply.proofs.MendedRows.{AreMendedSoFar}
use Rattle.ec_apply.proofs.mend.mend.Given as goal

abbrev pub invariant-loop-i : goal.invariant-loop-i
invariant-loop-i g l = AreMendedSoFar g.T.Moment.rank l.neighbours l.points l.touched l.initial.intervals l.i l.intervals l.count
