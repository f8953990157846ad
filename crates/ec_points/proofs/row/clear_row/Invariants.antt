-- With each turn a mark is gone, and no room.
use Rattle.std.proofs.Common.{◌≡◌, ◌+◌, ◌≤◌, length}
use Rattle.ec_points.proofs.row.clear_row.Given as goal

abbrev pub invariant-loop : goal.invariant-loop
invariant-loop g l = record {
  left : length (g.M.MarkRow.marks l.row) + l.counter ≡ l.end;
  spare : g.M.MarkRow.spare l.initial.row ≤ g.M.MarkRow.spare l.row;
}
