-- No rows have no key twice.
use Rattle.std.proofs.Common.{sym, subst, arith}
use Rattle.std.proofs.lemmas.Grind.{common_steps}
use Rattle.std.specs.List.{IsDistinct}
use Rattle.std.specs.Map.{keys_of}
use Rattle.ec_numbered.proofs.small_map.SmallMap.clear.Goals as goal

pub invariant_of-self : goal.invariant_of-self
unfolding IsDistinct
invariant_of-self g c = subst (λ rows. IsDistinct g.K.PartialEq.eq (keys_of rows)) (sym c.clear.ensures.items) tt

pub invariant_of-self-in-Many-2 : goal.invariant_of-self-in-Many-2
unfolding IsDistinct
invariant_of-self-in-Many-2 g c = subst (λ rows. IsDistinct g.K.PartialEq.eq (keys_of rows)) (sym c.new.ensures.items) tt

pub invariant_of-self-in-Many : goal.invariant_of-self-in-Many
invariant_of-self-in-Many c = grind (arith, common_steps)

pub returns-in-Many : goal.returns-in-Many
returns-in-Many c = grind (arith, common_steps)
