-- The flags of the nodes so far.
use Rattle.std.proofs.Common.{◌≡◌, map, take}
use Rattle.ec_cone.specs.declared.node.Node.{Node}
use Rattle.ec_cone.proofs.cone.are_reached.Given as goal

abbrev pub invariant-loop-node : goal.invariant-loop-node
invariant-loop-node l = l.flags.items ≡ map (λ (node : Node). node.reached) (take l.node-index l.nodes)
