-- An identity that is present is told, and so is a full list; for any other event memory may be wanting.
use Rattle.std.proofs.Common.{◌≤◌, ◌<◌, List, length, Err, is_some, refl, sym, ap, ◌∙◌, arith}
use Rattle.std.proofs.lemmas.List.{length-map}
use Rattle.ec_axioms.specs.declared.event.Cut.TheVariants.{Duplicate}
use Rattle.ec_axioms.specs.Calculus.{PlainEvent}
use Rattle.ec_axioms.specs.Changes.{has_id}
use Rattle.ec_axioms.specs.Links.{most_events}
use Rattle.ec_store.specs.Store.{plain_of}
use Rattle.ec_store.proofs.EventLemmas.{has_id-slot_of}
use Rattle.ec_past.proofs.Refused.{duplicate-first, full-first, may_want-first}
use Rattle.ec_past.proofs.refusing.refused_arrival.Goals as goal

pub returns-then-is_some : goal.returns-then-is_some
returns-then-is_some g c = λ event rest own.
    let engine = c.args.engine.now in
    let there = ap (has_id c.args.id) (sym c.store_of-store.ensures.events) ∙ has_id-slot_of g.T.Moment.rank c.args.id c.store_of-store.result.now.events ∙ ap is_some (sym c.find.ensures.slot) ∙ sym c.is_some.ensures in
    (duplicate-first engine.theory engine.events event rest (ap (λ i. has_id i engine.events) own ∙ there ∙ c.if-is_some.true) ∙ ap (λ i. Err (1, Duplicate i)) own, refl)

pub returns-then-len-ge-MOST_EVENTS : goal.returns-then-len-ge-MOST_EVENTS
returns-then-len-ge-MOST_EVENTS g c = λ event rest own.
    let engine = c.args.engine.now in
    let there = ap (has_id c.args.id) (sym c.store_of-store.ensures.events) ∙ has_id-slot_of g.T.Moment.rank c.args.id c.store_of-store.result.now.events ∙ ap is_some (sym c.find.ensures.slot) ∙ sym c.is_some.ensures in
    let counted = c.len.ensures.len ∙ sym (length-map c.store_of-store.result.now.events (plain_of g.T.Moment.rank)) ∙ ap (λ (es : List PlainEvent). length es) c.store_of-store.ensures.events in
    let full : most_events ≤ length engine.events = omega (arith, counted, c.if-len-ge-MOST_EVENTS.true) in
    (full-first engine.theory engine.events event rest (ap (λ i. has_id i engine.events) own ∙ there ∙ c.if-is_some.false) full, refl)

pub returns : goal.returns
returns g c = λ event rest own.
    let engine = c.args.engine.now in
    let there = ap (has_id c.args.id) (sym c.store_of-store.ensures.events) ∙ has_id-slot_of g.T.Moment.rank c.args.id c.store_of-store.result.now.events ∙ ap is_some (sym c.find.ensures.slot) ∙ sym c.is_some.ensures in
    let counted = c.len.ensures.len ∙ sym (length-map c.store_of-store.result.now.events (plain_of g.T.Moment.rank)) ∙ ap (λ (es : List PlainEvent). length es) c.store_of-store.ensures.events in
    let room : length engine.events < most_events = omega (arith, counted, c.if-len-ge-MOST_EVENTS.false) in
    (may_want-first engine.theory engine.events event rest (ap (λ i. has_id i engine.events) own ∙ there ∙ c.if-is_some.false) room, refl)
