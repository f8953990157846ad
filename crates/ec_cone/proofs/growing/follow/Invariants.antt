-- The nodes with a form that a literal before the index reads are reached.
use Rattle.std.proofs.Common.{◌≡◌, map, take}
use Rattle.ec_terms.specs.declared.theory.Literal.{Literal}
use Rattle.ec_cone.specs.Forms.{pattern_form}
use Rattle.ec_cone.specs.Growing.{reached_by}
use Rattle.ec_cone.proofs.growing.follow.Given as goal

abbrev pub invariant-loop-literal : goal.invariant-loop-literal
invariant-loop-literal l =
    l.nodes ≡ map (reached_by (map (λ (literal : Literal). pattern_form literal.prop) (take l.literal-index l.literal-items))) l.fn.nodes
