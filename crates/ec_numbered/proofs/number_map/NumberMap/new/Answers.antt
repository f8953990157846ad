-- No rows stand at their places.
use Rattle.std.proofs.Common.{sym, subst}
use Rattle.ec_numbered.specs.NumberPlaces.{ArePlaces}
use Rattle.ec_numbered.proofs.NumberPlaceLemmas.{ArePlaces-none}
use Rattle.ec_numbered.proofs.number_map.NumberMap.new.Goals as goal

pub invariant_of-result : goal.invariant_of-result
invariant_of-result g c = subst (λ rows. ArePlaces c.new-2.result.items rows) (sym c.new.ensures.items) (ArePlaces-none c.new-2.result.items)
