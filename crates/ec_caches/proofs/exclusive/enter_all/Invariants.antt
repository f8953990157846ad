-- The properties so far have their neighbours.
use Rattle.ec_exclusive.specs.Neighbours.{AreNeighbours}
use Rattle.ec_caches.proofs.exclusive.enter_all.Given as goal

abbrev pub invariant-loop-text : goal.invariant-loop-text
invariant-loop-text g l = AreNeighbours l.theory l.tables.props l.tables.neighbours
