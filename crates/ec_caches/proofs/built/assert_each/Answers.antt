-- Each event that is taken stands in its place.
use Rattle.std.proofs.Common.{◌≡◌, [], ◌∷◌, ◌++◌, map, take, ap₂, refl, sym, ap, ◌∙◌}
use Rattle.std.proofs.lemmas.List.{take_all}
use Rattle.ec_moment.specs.declared.tick.Tick.{Tick}
use Rattle.ec_terms.specs.Term.{ground_of}
use Rattle.ec_axioms.specs.Calculus.{PlainEvent}
use Rattle.ec_axioms.specs.Changes.{with_event}
use Rattle.ec_axioms.specs.Events.{event_of}
use Rattle.ec_batch.specs.Build.{history_from}
use Rattle.ec_batch.proofs.Built.{history_from-next}
use Rattle.ec_parts.proofs.Mentioned.{map-take_more}
use Rattle.ec_caches.proofs.Taken.{with_event-taken}
use Rattle.ec_caches.proofs.built.assert_each.Goals as goal

pub loop-event-init : goal.loop-event-init
loop-event-init g c = record { theory = refl; taken = c.requires.none }

pub loop-event-preserved : goal.loop-event-preserved
loop-event-preserved g c =
    let inv = c.loop-event.invariant in
    let f = event_of (λ (t : Tick). t.0) in
    let i = c.loop-event.event-index in
    let e = f c.event-item.result in
    let front = map f (take i c.args.list.now) in
    let told : PlainEvent = record { id = c.copied.result; rank = c.event-item.result.at.0; term = ground_of c.borrow.result } in
    let same : told ≡ e = ap₂ (λ id term. record { id = id; rank = c.event-item.result.at.0; term = term }) c.copied.ensures.same c.borrow.ensures.same in
    record {
      theory = c.assert.ensures.theory ∙ inv.theory;
      taken = with_event-taken c.loop-event.engine.theory c.loop-event.engine.events c.assert.new.self.events told c.in-Ok.ensures.revised.0
          ∙ ap (λ x. with_event x c.loop-event.engine.events) same ∙ ap (with_event e) inv.taken
          ∙ sym (ap history_from (map-take_more f c.args.list.now i c.event-item.result c.loop-event-test.true ∙ ap (λ x. front ++ f x ∷ []) (sym c.event-item.is)) ∙ history_from-next front e);
    }

pub returns-clause-taken : goal.returns-clause-taken
returns-clause-taken g c =
    c.loop-event.invariant.taken ∙ ap (λ xs. history_from (map (event_of (λ (t : Tick). t.0)) xs)) (take_all c.loop-event.event-index c.args.list.now c.loop-event-test.false)
