-- The properties so far have rows, and no row has marks.
use Rattle.std.proofs.Common.{◌≡◌, ℕ, [], take, is_some}
use Rattle.ec_numbered.specs.ByNumber.{kept_at}
use Rattle.ec_numbered.specs.PropSet.{has_number}
use Rattle.ec_points.specs.SeenRows.{seen_at}
use Rattle.ec_points.specs.Table.{marks_in}
use Rattle.ec_points.proofs.rows.empty_rows.Given as goal

abbrev pub invariant-loop-p : goal.invariant-loop-p
invariant-loop-p g l = record {
  rows : (n : ℕ) → is_some (kept_at n l.rows) ≡ has_number n (take l.p-index l.props);
  marks : (n : ℕ) → marks_in (seen_at g.M.MarkRow.marks g.M.MarkRow.spare n l.rows) ≡ [];
}
