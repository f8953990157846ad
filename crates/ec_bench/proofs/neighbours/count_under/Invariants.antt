-- The properties so far have their neighbours.
use Rattle.ec_exclusive.specs.Neighbours.{AreNeighbours}
use Rattle.ec_bench.proofs.neighbours.count_under.Given as goal

abbrev pub invariant-loop-number : goal.invariant-loop-number
invariant-loop-number l = AreNeighbours l.theory l.tables.value.props l.tables.value.neighbours
