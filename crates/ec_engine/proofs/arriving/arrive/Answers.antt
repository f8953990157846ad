-- The identity is present, there are too many events, or the event is new.
use Rattle.std.proofs.Common.{◌≡◌, ◌≤◌, ◌<◌, ◌+◌, false, length, is_some, refl, sym, ap, subst, ◌∙◌, add-one-le}
use Rattle.std.proofs.lemmas.List.{length-map}
use Rattle.ec_terms.specs.Term.{ground_of}
use Rattle.ec_axioms.specs.declared.event.Cut.TheVariants.{Duplicate, FullEvents}
use Rattle.ec_axioms.specs.Calculus.{PlainEvent}
use Rattle.ec_axioms.specs.Changes.{has_id}
use Rattle.ec_axioms.specs.Links.{most_events}
use Rattle.ec_store.specs.Store.{history_of, plain_of}
use Rattle.ec_store.proofs.EventLemmas.{has_id-slot_of}
use Rattle.ec_batch.proofs.ComingIn.{may_want_alone, refused_alone}
use Rattle.ec_batch.proofs.WalkSteps.{may_want-asserted, refused_full, refused_present}
use Rattle.ec_engine.proofs.arriving.arrive.Goals as goal

pub returns-then-is_some-clause-arrived : goal.returns-then-is_some-clause-arrived
returns-then-is_some-clause-arrived g c =
    let rank = g.T.Moment.rank in
    let hist = history_of rank c.args.parts.now.store.events in
    let e : PlainEvent = record { id = c.args.id; rank = rank c.args.at; term = ground_of c.args.event.now } in
    let present = has_id-slot_of rank c.args.id c.args.parts.now.store.events ∙ sym (ap is_some c.find.ensures.slot) ∙ sym c.is_some.ensures ∙ c.if-is_some.true in
    (refused_alone c.args.parts.now.checked hist (Duplicate c.args.id) e (refused_present c.args.parts.now.checked hist e c.args.id refl present), c.requires.stand)

pub returns-then-len-ge-MOST_EVENTS-clause-arrived : goal.returns-then-len-ge-MOST_EVENTS-clause-arrived
returns-then-len-ge-MOST_EVENTS-clause-arrived g c =
    let rank = g.T.Moment.rank in
    let hist = history_of rank c.args.parts.now.store.events in
    let e : PlainEvent = record { id = c.args.id; rank = rank c.args.at; term = ground_of c.args.event.now } in
    let absent = has_id-slot_of rank c.args.id c.args.parts.now.store.events ∙ sym (ap is_some c.find.ensures.slot) ∙ sym c.is_some.ensures ∙ c.if-is_some.false in
    let count = c.len.ensures.len ∙ sym (length-map c.args.parts.now.store.events (plain_of rank)) in
    let full : most_events ≤ length hist = subst (λ n. most_events ≤ n) count c.if-len-ge-MOST_EVENTS.true in
    (refused_alone c.args.parts.now.checked hist FullEvents e (refused_full c.args.parts.now.checked hist e absent full), c.requires.stand)

pub returns-in-Err-clause-arrived : goal.returns-in-Err-clause-arrived
returns-in-Err-clause-arrived g c =
    let rank = g.T.Moment.rank in
    let hist = history_of rank c.args.parts.now.store.events in
    let e : PlainEvent = record { id = c.args.id; rank = rank c.args.at; term = ground_of c.args.event.now } in
    let absent = has_id-slot_of rank c.args.id c.args.parts.now.store.events ∙ sym (ap is_some c.find.ensures.slot) ∙ sym c.is_some.ensures ∙ c.if-is_some.false in
    let count = c.len.ensures.len ∙ sym (length-map c.args.parts.now.store.events (plain_of rank)) in
    let room : length hist + 1 ≤ most_events = add-one-le (subst (λ n. n < most_events) count c.if-len-ge-MOST_EVENTS.false) in
    (may_want_alone c.args.parts.now.checked hist e (may_want-asserted c.args.parts.now.checked hist e absent room), c.requires.stand)

pub arrive_new-requires-clause-absent : goal.arrive_new-requires-clause-absent
arrive_new-requires-clause-absent g c =
    let rank = g.T.Moment.rank in
    let hist = history_of rank c.args.parts.now.store.events in
    let absent : has_id c.args.id hist ≡ false = has_id-slot_of rank c.args.id c.args.parts.now.store.events ∙ sym (ap is_some c.find.ensures.slot) ∙ sym c.is_some.ensures ∙ c.if-is_some.false in
    subst (λ id. has_id id hist ≡ false) (sym (ap (λ (e : PlainEvent). e.id) c.in-Ok.ensures)) absent
