-- The nodes before the index are done, and the others are as they were.
use Rattle.std.proofs.Common.{◌≡◌, [], ◌∷◌, ◌++◌, map, take, drop}
use Rattle.ec_cone.specs.Growing.{reached_by}
use Rattle.ec_cone.proofs.growing.reach.Given as goal

abbrev pub invariant-loop-node : goal.invariant-loop-node
invariant-loop-node l =
    l.nodes ≡ map (reached_by (record { name = l.name; arity = l.arity } ∷ [])) (take l.node-index l.initial.nodes) ++ drop l.node-index l.initial.nodes
