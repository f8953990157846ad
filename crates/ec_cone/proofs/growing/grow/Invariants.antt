-- What grew so far; each round follows one node more.
use Rattle.std.proofs.Common.{length, filter, not}
use Rattle.ec_terms.specs.declared.theory.Theory.{Theory}
use Rattle.ec_cone.specs.declared.node.Node.{Node}
use Rattle.ec_cone.specs.Forms.{Form}
use Rattle.ec_cone.specs.Growing.{IsGrowing}
use Rattle.ec_cone.proofs.growing.grow.Given as goal

abbrev pub invariant-loop-place : goal.invariant-loop-place
invariant-loop-place l = (theory : Theory) (start : Form) → IsGrowing theory start l.initial.nodes → IsGrowing theory start l.nodes

abbrev pub decreases-loop-place : goal.decreases-loop-place
decreases-loop-place l = length (filter (λ (node : Node). not node.followed) l.nodes)
