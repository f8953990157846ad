-- A test of the plain events is that test of the events.
use Rattle.std.proofs.Common.{◌≡◌, ◌∙◌, true, sym, ap, ap₂, arith}
use Rattle.std.specs.Prelude.{bytes_eq}
use Rattle.std.specs.List.{list_any}
use Rattle.std.proofs.lemmas.List.{take_all}
use Rattle.std.proofs.lemmas.List.Folds.{list_any_at}
use Rattle.std.proofs.lemmas.Grind.{common_steps}
use Rattle.ec_axioms.specs.Changes.{has_id}
use Rattle.ec_axioms.specs.Events.{event_of}
use Rattle.ec_lists.proofs.Tests.{list_any-map}
use Rattle.ec_axioms.proofs.in_order.is_present.Goals as goal

pub returns-then-eq : goal.returns-then-eq
unfolding has_id
returns-then-eq g c =
    let f = event_of g.T.Moment.rank in
    let same : bytes_eq c.other-item.result.id c.args.id.now ≡ true =
    ap₂ bytes_eq (sym c.as_bytes.ensures.bytes) (sym c.as_bytes-in-loop-other.ensures.bytes) ∙ sym c.eq.ensures ∙ c.if-eq.true in
    sym
    (list_any-map (λ e. bytes_eq e.id c.args.id.now) f c.args.events.now
    ∙ list_any_at (λ x. bytes_eq x.id c.args.id.now) c.args.events.now c.loop-other.other-index c.other-item.result c.loop-other-test.true
    (ap (λ x. bytes_eq x.id c.args.id.now) (sym c.other-item.is) ∙ same))

pub returns : goal.returns
unfolding has_id
returns g c =
    let f = event_of g.T.Moment.rank in
    sym
    (list_any-map (λ e. bytes_eq e.id c.args.id.now) f c.args.events.now
    ∙ ap (list_any (λ x. bytes_eq x.id c.args.id.now)) (sym (take_all c.loop-other.other-index c.args.events.now c.loop-other-test.false)) ∙ c.loop-other.invariant)

pub loop-other-preserved : goal.loop-other-preserved
unfolding has_id
loop-other-preserved g c = grind (arith, common_steps)
