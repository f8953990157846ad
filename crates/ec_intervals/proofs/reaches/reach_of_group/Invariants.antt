-- The numbers of the group so far have their part in the reach.
use Rattle.std.proofs.Common.{◌≡◌, ℕ, ◌+◌, ◌*◌, ◌/◌, ◌<◌}
use Rattle.ec_numbered.specs.ByNumber.{kept_at}
use Rattle.ec_intervals.specs.declared.near.TheConstants.{GROUP}
use Rattle.ec_intervals.specs.Reach.{HasReach}
use Rattle.ec_intervals.proofs.reaches.reach_of_group.Given as goal

abbrev pub invariant-loop-i : goal.invariant-loop-i
invariant-loop-i g l = (n : ℕ) → n / GROUP ≡ l.group → n < l.group * GROUP + l.i → HasReach g.T.Moment.rank l.reach (kept_at n l.rows)
