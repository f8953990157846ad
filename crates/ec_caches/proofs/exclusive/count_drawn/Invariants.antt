-- The properties so far have their neighbours.
use Rattle.ec_exclusive.specs.Neighbours.{AreNeighbours}
use Rattle.ec_caches.proofs.exclusive.count_drawn.Given as goal

abbrev pub invariant-loop : goal.invariant-loop
invariant-loop g l = AreNeighbours l.theory l.tables.value.props l.tables.value.neighbours
