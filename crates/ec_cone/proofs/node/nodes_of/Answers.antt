-- One source more is a node at the end.
use Rattle.std.proofs.Common.{◌≡◌, ◌<◌, [], ◌∷◌, ◌++◌, List, length, get_or, map, take, flat_map, sym, ap, subst, ◌∙◌}
use Rattle.std.proofs.lemmas.List.{append_assoc, map_more, flat_map_more, take_more}
use Rattle.ec_terms.specs.declared.theory.Rule.{Rule}
use Rattle.ec_terms.specs.declared.theory.Exclusive.{Exclusive}
use Rattle.ec_cone.specs.declared.node.Node.{Node}
use Rattle.ec_cone.specs.Growing.{Reads, is_new, node_reads, rule_reads, left_reads, right_reads, sides_read}
use Rattle.ec_cone.proofs.Reached.{node_reads-push, is_new-push}
use Rattle.ec_cone.proofs.node.nodes_of.Goals as goal

pub loop-rule-preserved : goal.loop-rule-preserved
loop-rule-preserved c =
    let rules : List Rule = c.args.theory.now.rules in
    let i = c.loop-rule.rule-index in
    let rule : Rule = c.rule-item.result in
    let nodes : List Node = c.loop-rule.nodes.items in
    let all : c.as_slice-rule-items.result.now ≡ rules = c.as_slice-rule-items.ensures in
    let within : i < length rules = subst (λ (rs : List Rule). i < length rs) all c.loop-rule-test.true in
    let so_far : List Reads = map rule_reads (take i rules) in (
      node_reads-push nodes c.push.new.self.items c.new_node.result so_far (rule_reads rule) c.in_ok-push.ensures.items c.loop-rule.invariant.0
          (ap node_reads c.new_node.ensures)
          ∙ ap (λ r. so_far ++ rule_reads r ∷ []) (c.rule-item.is ∙ ap (λ rs. get_or rs i rule) all)
          ∙ sym (map_more rule_reads rules i rule within),
      is_new-push nodes c.push.new.self.items c.new_node.result c.in_ok-push.ensures.items c.loop-rule.invariant.1 (ap is_new c.new_node.ensures),
    )

pub loop-declaration-preserved : goal.loop-declaration-preserved
loop-declaration-preserved c =
    let rules : List Rule = c.args.theory.now.rules in
    let declarations : List Exclusive = c.args.theory.now.exclusives in
    let i = c.loop-declaration.declaration-index in
    let declaration : Exclusive = c.declaration-item.result in
    let nodes : List Node = c.loop-declaration.nodes.items in
    let all : c.as_slice-declaration-items.result.now ≡ declarations = c.as_slice-declaration-items.ensures in
    let within : i < length declarations = subst (λ (ds : List Exclusive). i < length ds) all c.loop-declaration-test.true in
    let once : List Node = c.push-in-loop-declaration.new.self.items in
    let twice : List Node = c.push-in-loop-declaration-2.new.self.items in
    let left : Node = c.new_node-in-loop-declaration.result in
    let right : Node = c.new_node-in-loop-declaration-2.result in
    let so_far : List Reads = map rule_reads rules ++ flat_map sides_read (take i declarations) in
    let one = node_reads-push nodes once left so_far (left_reads declaration) c.in_ok-push-2.ensures.items c.loop-declaration.invariant.0
    (ap node_reads c.new_node-in-loop-declaration.ensures) in
    let one_new = is_new-push nodes once left c.in_ok-push-2.ensures.items c.loop-declaration.invariant.1
    (ap is_new c.new_node-in-loop-declaration.ensures) in (
      node_reads-push once twice right (so_far ++ left_reads declaration ∷ []) (right_reads declaration) c.in_ok-push-3.ensures.items one
          (ap node_reads c.new_node-in-loop-declaration-2.ensures)
          ∙ append_assoc so_far (left_reads declaration ∷ []) (right_reads declaration ∷ [])
          ∙ flat_map_more sides_read (map rule_reads rules) (take i declarations) declaration
          ∙ ap (λ ds. map rule_reads rules ++ flat_map sides_read ds)
          (ap (λ d. take i declarations ++ d ∷ []) (c.declaration-item.is ∙ ap (λ ds. get_or ds i declaration) all)
          ∙ sym (take_more declarations i declaration within)),
      is_new-push once twice right c.in_ok-push-3.ensures.items one_new (ap is_new c.new_node-in-loop-declaration-2.ensures),
    )
