-- Where nothing waits, the nodes of the rules in the cone are reached.
use Rattle.std.proofs.Common.{◌≡◌, ℕ, [], ◌∷◌, ◌++◌, List, map, take, drop, length, sym, ap, ap₂, subst, ◌∙◌, arith}
use Rattle.std.proofs.lemmas.List.{length-map}
use Rattle.std.proofs.Math.Seq.{take-append_seam}
use Rattle.ec_terms.specs.Term.{arg_of, ground_of}
use Rattle.ec_cone.specs.declared.node.Node.{Node}
use Rattle.ec_cone.specs.Forms.{Form, form_of}
use Rattle.ec_cone.specs.Growing.{IsGrowing, reached_by}
use Rattle.ec_cone.proofs.Growth.{IsGrowing-start, cone_rules-grown}
use Rattle.ec_cone.proofs.cone.Cone.of.Goals as goal

-- what a slice leaves in its vector
written : (n : ℕ) (nodes old : List Node) → n ≡ length nodes → take n (nodes ++ drop (length nodes) old) ≡ nodes
written n nodes old same = ap (λ m. take m (nodes ++ drop (length nodes) old)) same ∙ take-append_seam nodes (drop (length nodes) old)

pub returns : goal.returns
returns c =
    let theory = c.args.theory.now in
    let p = ground_of c.args.p.now in
    let nodes : List Node = c.in_ok-nodes.nodes.items in
    let count = c.in_ok-nodes.nodes.len in
    let of_arity : ℕ → Form = λ n. record { name = c.args.p.now.name.now; arity = n } in
    let form : of_arity c.len.result ≡ form_of p = ap of_arity (c.len.ensures.count ∙ sym (length-map c.args.p.now.args arg_of)) in
    let whole = c.as_mut_slice.ensures.len in
    let still = c.reach.auto.nodes in
    let reached_count : count ≡ length c.reach.new.nodes = omega (arith, whole, still) in
    let reached = written count c.reach.new.nodes nodes reached_count in
    let kept = c.grow.auto.nodes in
    let lent = ap length (c.as_mut_slice-2.ensures.value ∙ reached) in
    let grown = written count c.grow.new.nodes (take count (c.reach.new.nodes ++ drop (length c.reach.new.nodes) nodes)) (omega (arith, reached_count, kept, lent)) in
    let begun : c.as_mut_slice-2.result.now ≡ map (reached_by (form_of p ∷ [])) nodes =
    c.as_mut_slice-2.ensures.value ∙ reached ∙ c.reach.ensures
    ∙ ap₂ (λ f ns. map (reached_by (f ∷ [])) ns) form c.as_mut_slice.ensures.value in
    let growing = c.grow.ensures.grown theory (form_of p)
    (subst (IsGrowing theory (form_of p)) (sym begun) (IsGrowing-start theory (form_of p) nodes c.in_ok-nodes.ensures.nodes c.in_ok-nodes.ensures.fresh)) in
    c.in_ok-rules.ensures
    ∙ ap (map (λ (node : Node). node.reached)) (c.as_slice.ensures.value ∙ c.truncate.ensures.items ∙ ap₂ take c.len-2.ensures grown)
    ∙ cone_rules-grown theory p c.grow.new.nodes growing c.grow.ensures.done
