use Rattle.std.proofs.Common.{◌≡◌, take}
use Rattle.ec_exclusive.specs.Added.{added_props}
use Rattle.ec_exclusive.specs.Neighbours.{AreNeighbours}
use Rattle.ec_parts.proofs.initials.neighbours_of.Given as goal

abbrev pub invariant-loop-p : goal.invariant-loop-p
invariant-loop-p l = record {
  neighbours : AreNeighbours l.theory l.props l.neighbours;
  added : added_props l.neighbours.rows ≡ take l.p-index l.numbers;
}
