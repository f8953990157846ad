-- A test of the plain events is that test of the events.
use Rattle.std.proofs.Common.{◌∙◌, sym, ap, arith}
use Rattle.std.specs.List.{list_all}
use Rattle.std.proofs.lemmas.List.{take_all}
use Rattle.std.proofs.lemmas.List.Folds.{list_all-map, list_all_at}
use Rattle.std.proofs.lemmas.Grind.{common_steps}
use Rattle.ec_axioms.specs.Changes.{comes_before}
use Rattle.ec_axioms.specs.Events.{event_of}
use Rattle.ec_axioms.proofs.in_order.is_before_all.Goals as goal

pub returns-then-not-is_before : goal.returns-then-not-is_before
returns-then-not-is_before g c =
    let f = event_of g.T.Moment.rank in
    let p = comes_before (f c.args.event.now) in
    sym
    (list_all-map p f c.args.events.now
    ∙ list_all_at (λ x. p (f x)) c.args.events.now c.loop-other.other-index c.other-item.result c.loop-other-test.true
    (ap (λ x. p (f x)) (sym c.other-item.is) ∙ sym c.is_before.ensures ∙ c.if-not-is_before.true))

pub returns : goal.returns
returns g c =
    let f = event_of g.T.Moment.rank in
    let p = comes_before (f c.args.event.now) in
    sym (list_all-map p f c.args.events.now ∙ ap (list_all (λ x. p (f x))) (sym (take_all c.loop-other.other-index c.args.events.now c.loop-other-test.false)) ∙ c.loop-other.invariant)

pub loop-other-preserved : goal.loop-other-preserved
loop-other-preserved g c = grind (arith, common_steps)
