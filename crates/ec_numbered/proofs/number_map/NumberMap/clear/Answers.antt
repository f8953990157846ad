-- No rows stand at their places.
use Rattle.std.proofs.Common.{sym, subst}
use Rattle.ec_numbered.specs.NumberPlaces.{ArePlaces}
use Rattle.ec_numbered.proofs.NumberPlaceLemmas.{ArePlaces-none}
use Rattle.ec_numbered.proofs.number_map.NumberMap.clear.Goals as goal

pub invariant_of-self : goal.invariant_of-self
invariant_of-self g c = subst (λ rows. ArePlaces c.self.inside.places.items rows) (sym c.clear.ensures.items) (ArePlaces-none c.self.inside.places.items)
