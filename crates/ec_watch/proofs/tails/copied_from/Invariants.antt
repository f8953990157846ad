-- What was copied and the intervals from the place on are those that are asked for.
use Rattle.std.proofs.Common.{◌≡◌, ◌++◌, drop}
use Rattle.ec_intervals.specs.Table.{members_at}
use Rattle.ec_watch.proofs.tails.copied_from.Given as goal

abbrev pub invariant-loop-place : goal.invariant-loop-place
invariant-loop-place g l = l.copied.items ++ drop l.place (members_at l.id.0 l.intervals) ≡ drop l.skipped (members_at l.id.0 l.intervals)
