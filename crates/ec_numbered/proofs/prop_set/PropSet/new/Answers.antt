-- No members ascend.
use Rattle.std.proofs.Common.{refl}
use Rattle.ec_rows.specs.Ordered.{is_ascending}
use Rattle.ec_numbered.proofs.prop_set.PropSet.new.Goals as goal

pub invariant_of-result : goal.invariant_of-result
unfolding is_ascending
invariant_of-result c = rw c.new.ensures.items refl
