-- No rows have no key twice.
use Rattle.std.proofs.Common.{sym, subst}
use Rattle.std.specs.List.{IsDistinct}
use Rattle.std.specs.Map.{keys_of}
use Rattle.ec_numbered.proofs.small_map.SmallMap.new.Goals as goal

pub invariant_of-result : goal.invariant_of-result
unfolding IsDistinct
invariant_of-result g c = subst (λ rows. IsDistinct g.K.PartialEq.eq (keys_of rows)) (sym c.new.ensures.items) tt
