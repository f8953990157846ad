-- A begin is open behind the marks that are left, and it is the one that is sought.
use Rattle.std.proofs.Common.{◌≡◌, ◌≤◌, true, is_some}
use Rattle.ec_intervals.proofs.Walking.{open_at}
use Rattle.ec_intervals.proofs.window.find_open.Given as goal

abbrev pub invariant-loop-i : goal.invariant-loop-i
invariant-loop-i g l = record {
  within : l.i ≤ l.count;
  found : open_at g.T.Moment.rank (g.M.MarkRow.marks l.row) l.strong l.initial' l.i ≡ open_at g.T.Moment.rank (g.M.MarkRow.marks l.row) l.strong l.initial' l.count;
  some : is_some (open_at g.T.Moment.rank (g.M.MarkRow.marks l.row) l.strong l.initial' l.i) ≡ true;
}

abbrev pub decreases-loop-i : goal.decreases-loop-i
decreases-loop-i g l = l.i
