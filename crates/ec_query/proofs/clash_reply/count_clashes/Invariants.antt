-- All but what is left behind the last clash was counted.
use Rattle.std.proofs.Common.{◌≡◌, ◌-◌, ◌≤◌, ℤ, List, length}
use Rattle.std.specs.Prelude.{◌^◌, min}
use Rattle.ec_query.specs.Marked.{AreClashTimes}
use Rattle.ec_query.proofs.ClashSearch.{left_behind, mark_times}
use Rattle.ec_query.proofs.clash_reply.count_clashes.Given as goal

abbrev pub invariant-loop-at : goal.invariant-loop-at
invariant-loop-at g l = (times : List ℤ) → AreClashTimes g.T.Moment.rank l.points times
    → (l.count ≡ min (length times - length (left_behind g.T.Moment.rank l.after times)) (2 ^ 64 - 1)) × (length (left_behind g.T.Moment.rank l.after times) ≤ length times)

abbrev pub decreases-loop-at : goal.decreases-loop-at
decreases-loop-at g l = length (left_behind g.T.Moment.rank l.after (mark_times g.T.Moment.rank l.points))
