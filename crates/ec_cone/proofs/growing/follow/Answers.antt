-- One literal more is read.
use Rattle.std.proofs.Common.{[], ◌∷◌, ◌++◌, List, map, take, sym, ap, ◌∙◌}
use Rattle.std.proofs.lemmas.List.{map_more}
use Rattle.ec_terms.specs.declared.theory.Literal.{Literal}
use Rattle.ec_cone.specs.Forms.{Form, pattern_form}
use Rattle.ec_cone.specs.Growing.{reached_by}
use Rattle.ec_cone.proofs.Reached.{reached_by-none, reached_by-more}
use Rattle.ec_cone.proofs.growing.follow.Goals as goal

pub loop-literal-init : goal.loop-literal-init
loop-literal-init c = reached_by-none c.args.nodes.now

pub loop-literal-preserved : goal.loop-literal-preserved
loop-literal-preserved c =
    let of_literal : Literal → Form = λ literal. pattern_form literal.prop in
    let literals : List Literal = c.as_slice-literal-items.result.now in
    let i = c.loop-literal.literal-index in
    let literal : Literal = c.literal-item.result in
    c.reach_pattern.ensures
    ∙ ap (map (reached_by (of_literal literal ∷ []))) c.loop-literal.invariant
    ∙ reached_by-more (map of_literal (take i literals)) (of_literal literal) c.args.nodes.now
    ∙ ap (λ forms. map (reached_by forms) c.args.nodes.now)
    (ap (λ l. map of_literal (take i literals) ++ of_literal l ∷ []) c.literal-item.is ∙ sym (map_more of_literal literals i literal c.loop-literal-test.true))
