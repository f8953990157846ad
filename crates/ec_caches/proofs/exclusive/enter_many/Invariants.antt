-- The properties so far have their neighbours.
use Rattle.ec_exclusive.specs.Neighbours.{AreNeighbours}
use Rattle.ec_caches.proofs.exclusive.enter_many.Given as goal

abbrev pub invariant-loop-n : goal.invariant-loop-n
invariant-loop-n g l = AreNeighbours l.theory l.tables.props l.tables.neighbours
