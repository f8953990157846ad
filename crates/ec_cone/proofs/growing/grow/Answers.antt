-- Each round follows one node that waits.
use Rattle.std.proofs.Common.{◌≡◌, ◌<◌, true, List, length, filter, get_or, set, map, sym, ap, ap₂, subst, ◌∙◌}
use Rattle.std.proofs.lemmas.Bool.{and_parts}
use Rattle.std.proofs.lemmas.List.{get_or_default}
use Rattle.std.proofs.lemmas.List.Quantifiers.{position-Some}
use Rattle.ec_cone.specs.declared.node.Node.{Node}
use Rattle.ec_cone.specs.Growing.{IsGrowing, node_reads, reached_by, is_waiting}
use Rattle.ec_cone.proofs.Reached.{is_left, position-None}
use Rattle.ec_cone.proofs.Growth.{followed_on, left-followed_on, IsGrowing-followed}
use Rattle.ec_cone.proofs.growing.grow.Goals as goal

-- the nodes behind a round
after_round : (c : goal.After-nodes-1) → (c.follow.new.nodes ≡ followed_on c.loop-place.nodes c.in-Some.place c.index-nodes-place.result)
after_round c =
    let nodes = c.loop-place.nodes in
    let place = c.in-Some.place in
    let node : Node = c.index-nodes-place.result in
    let first = position-Some is_waiting nodes place node (sym c.first_waiting.ensures ∙ c.in-Some.is) in
    let read : get_or nodes place node ≡ node = sym c.index-nodes-place.is in
    let written : get_or nodes place c.index-nodes-place-in-Some.result ≡ node =
    get_or_default nodes place c.index-nodes-place-in-Some.result node first.0 ∙ read in
    c.follow.ensures ∙ ap₂ (λ (x y : Node). map (reached_by (node_reads x).reads) (set nodes place (record y { followed = true }))) read written

pub loop-place-smaller : goal.loop-place-smaller
loop-place-smaller c =
    let nodes = c.loop-place.nodes in
    let place = c.in-Some.place in
    let node : Node = c.index-nodes-place.result in
    let first = position-Some is_waiting nodes place node (sym c.first_waiting.ensures ∙ c.in-Some.is) in
    subst (λ (ns : List Node). length (filter is_left ns) < length (filter is_left nodes)) (sym (after_round c))
    (left-followed_on nodes place node first.0 (and_parts _ _ first.1).1)

pub loop-place-preserved : goal.loop-place-preserved
loop-place-preserved c = λ theory start before.
    let nodes = c.loop-place.nodes in
    let place = c.in-Some.place in
    let node : Node = c.index-nodes-place.result in
    let first = position-Some is_waiting nodes place node (sym c.first_waiting.ensures ∙ c.in-Some.is) in
    let reached = ap (λ (n : Node). n.reached) c.index-nodes-place.is ∙ (and_parts _ _ first.1).0 in
    subst (IsGrowing theory start) (sym (after_round c))
    (IsGrowing-followed theory start nodes place node first.0 (sym c.index-nodes-place.is) reached (c.loop-place.invariant theory start before))

pub returns-clause-done : goal.returns-clause-done
returns-clause-done c = position-None is_waiting c.loop-place.nodes (sym c.first_waiting.ensures ∙ c.in_default.is)
