-- The clashes at the times of the marks so far are out.
use Rattle.std.proofs.Common.{◌≡◌, ◌≤◌, ◌&&◌, ℕ, ℤ, not, take}
use Rattle.std.specs.Prelude.{◌==◌}
use Rattle.ec_rows.specs.Marks.{has_mark}
use Rattle.ec_points.specs.Clashes.{has_clash}
use Rattle.ec_points.proofs.noted.forget_row.Given as goal

abbrev pub invariant-loop-i : goal.invariant-loop-i
invariant-loop-i g l = record {
  has : (n : ℕ) (t : ℤ) → has_clash g.T.Moment.rank n t l.noted.items
      ≡ (not ((l.p.0 == n) && has_mark g.T.Moment.rank t (take l.i (g.M.MarkRow.marks l.row))) && has_clash g.T.Moment.rank n t l.initial.noted.items);
  spare : l.initial.noted.spare ≤ l.noted.spare;
}
