-- Of the groups so far, those whose reach has not the time are left out.
use Rattle.std.proofs.Common.{◌≡◌, ℕ, true, false}
use Rattle.ec_numbered.specs.ByNumber.{kept_at}
use Rattle.ec_intervals.specs.Near.{may_hold}
use Rattle.ec_intervals.specs.Reach.{is_outside}
use Rattle.ec_intervals.proofs.reaches.Reaches.near.Given as goal

abbrev pub invariant-loop-group : goal.invariant-loop-group
invariant-loop-group g l = (n : ℕ) → may_hold n l.near ≡ false → is_outside g.T.Moment.rank (kept_at n l.self.items) (g.T.Moment.rank l.at) ≡ true
