-- One node more is done: it has the form, or is as it was.
use Rattle.std.proofs.Common.{Bool, true, [], ◌∷◌, set, sym, ap, ◌∙◌}
use Rattle.std.proofs.lemmas.List.Edits.{map_over_more}
use Rattle.ec_cone.specs.declared.node.Node.{Node}
use Rattle.ec_cone.specs.Forms.{Form, form_eq}
use Rattle.ec_cone.specs.Growing.{node_reads, reached_by}
use Rattle.ec_cone.proofs.Reached.{reached_by-here, reached_by-not_here}
use Rattle.ec_cone.proofs.growing.reach.Goals as goal
use Rattle.ec_cone.proofs.growing.reach.Goals.{then-has_form, else-has_form}

pub loop-node-preserved : goal.loop-node-preserved
loop-node-preserved c =
    let form : Form = record { name = c.args.name.now; arity = c.args.arity } in
    let i = c.loop-node.node-index in
    let node : Node = c.node-item.result in
    let more = map_over_more (reached_by (form ∷ [])) c.args.nodes.now c.loop-node.nodes i node c.loop-node-test.true c.loop-node.invariant c.node-item.is in
    let test : Node → Bool = λ n. form_eq (node_reads n).form form in
    let told = ap test c.node-item.is ∙ sym c.has_form.ensures in
    elim c.if-has_form.branch [
      | then-has_form w ↦ w.nodes-is
          ∙ ap (λ (n : Node). set c.loop-node.nodes i (record n { reached = true })) (sym c.node-item.is)
          ∙ ap (set c.loop-node.nodes i) (reached_by-here form node (told ∙ w.if-has_form.true))
          ∙ more
      | else-has_form w ↦ w.nodes-is
          ∙ ap (set c.loop-node.nodes i) (sym c.node-item.is ∙ reached_by-not_here form node (told ∙ w.if-has_form.false))
          ∙ more
    ]
