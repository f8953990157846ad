-- The changes that are left lead to what all of them do.
use Rattle.std.proofs.Common.{ℕ}
use Rattle.ec_points.proofs.AppliedChanges.{IsApplied}
use Rattle.ec_points.proofs.rows.change_rows.Given as goal

abbrev pub invariant-loop-i : goal.invariant-loop-i
invariant-loop-i g l = (n : ℕ) → IsApplied g.M.MarkRow.marks g.M.MarkRow.spare g.T.Moment.rank l.change l.i l.initial.rows l.rows n
