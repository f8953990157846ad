-- The marks so far have their room.
use Rattle.std.proofs.Common.{ℕ, ◌≤◌}
use Rattle.ec_points.specs.Changes.{count_of}
use Rattle.ec_points.specs.Table.{room_at}
use Rattle.ec_caches.proofs.points.put.Given as goal

abbrev pub invariant-loop-one : goal.invariant-loop-one
invariant-loop-one g l = (n : ℕ) → count_of n l.change ≤ room_at n l.points
