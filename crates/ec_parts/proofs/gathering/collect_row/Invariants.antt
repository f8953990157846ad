use Rattle.std.proofs.Common.{◌≡◌, ◌++◌, take}
use Rattle.ec_parts.proofs.gathering.collect_row.Given as goal

abbrev pub invariant-loop-i : goal.invariant-loop-i
invariant-loop-i g l = l.collected.items ≡ l.initial.collected.items ++ take l.i (g.M.MarkRow.marks l.row)
