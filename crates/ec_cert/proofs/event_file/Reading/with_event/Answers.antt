-- The identity is present, there are too many events, or the limits decide.
use Rattle.std.proofs.Common.{◌≡◌, ◌≤◌, ◌<◌, ℕ, ℤ, Bool, true, false, List, length, is_some, refl, sym, ap, ap₂, subst, ◌∙◌}
use Rattle.std.specs.Prelude.{Ok, Result}
use Rattle.std.proofs.lemmas.List.{length-map}
use Rattle.ec_terms.specs.declared.ground.Ground.{Ground}
use Rattle.ec_terms.specs.declared.theory.Theory.{Theory}
use Rattle.ec_terms.specs.Term.{ground_of}
use Rattle.ec_axioms.specs.Calculus.{PlainEvent}
use Rattle.ec_axioms.specs.Changes.{has_id, with_event}
use Rattle.ec_axioms.specs.Links.{most_events}
use Rattle.ec_store.specs.Store.{Kept, history_of, plain_of}
use Rattle.ec_store.proofs.EventLemmas.{has_id-slot_of}
use Rattle.ec_cert.specs.declared.event_fault.EventName.{EventName}
use Rattle.ec_cert.specs.Reading.{AreLimitsOf, EventsSoFar, IsRefusal, keeps_all, theory_under}
use Rattle.ec_cert.proofs.FileLines.{admitted-by, admitted-duplicate, admitted-too_many}
use Rattle.ec_cert.proofs.event_file.Reading.with_event.Goals as goal

pub returns-then-is_some : goal.returns-then-is_some
returns-then-is_some g c =
    let rank = g.T.Moment.rank in
    let events = c.self.inside.store.events in
    let e : PlainEvent = record { id = c.args.id; rank = rank c.args.at; term = ground_of c.args.term.now } in
    let same : history_of rank events ≡ c.args.self.events = ap (λ (r : EventsSoFar). r.events) c.self.view_is in
    let there : has_id c.args.id c.args.self.events ≡ true =
    ap (has_id c.args.id) (sym same) ∙ has_id-slot_of rank c.args.id events ∙ sym (ap is_some c.find.ensures.slot) ∙ sym c.is_some.ensures ∙ c.if-is_some.true in
    record { goes = (refl, admitted-duplicate c.args.self.theory c.args.self.all c.args.self.events e there) }

pub returns-then-len-ge-MOST_EVENTS : goal.returns-then-len-ge-MOST_EVENTS
returns-then-len-ge-MOST_EVENTS g c =
    let rank = g.T.Moment.rank in
    let events = c.self.inside.store.events in
    let e : PlainEvent = record { id = c.args.id; rank = rank c.args.at; term = ground_of c.args.term.now } in
    let same : history_of rank events ≡ c.args.self.events = ap (λ (r : EventsSoFar). r.events) c.self.view_is in
    let absent : has_id c.args.id c.args.self.events ≡ false =
    ap (has_id c.args.id) (sym same) ∙ has_id-slot_of rank c.args.id events ∙ sym (ap is_some c.find.ensures.slot) ∙ sym c.is_some.ensures ∙ c.if-is_some.false in
    let count = c.len.ensures.len ∙ sym (length-map events (plain_of rank)) ∙ ap length same in
    record { goes = (refl, admitted-too_many c.args.self e absent (subst (λ n. most_events ≤ n) count c.if-len-ge-MOST_EVENTS.true)) }

pub with_event-requires : goal.with_event-requires
with_event-requires g c =
    let rank = g.T.Moment.rank in
    let events = c.self.inside.store.events in
    let absent : has_id c.args.id (history_of rank events) ≡ false = has_id-slot_of rank c.args.id events ∙ sym (ap is_some c.find.ensures.slot) ∙ sym c.is_some.ensures ∙ c.if-is_some.false in
    record { may = record { events = history_of rank events; history = c.len.ensures.history; absent = absent; limits_of = c.self.invariant } }

-- what a term is copied to
copied : (id : List ℕ) (t : ℤ) (term same : Ground) → same ≡ term → (let f : PlainEvent = record { id = id; rank = t; term = same } in f) ≡ record { id = id; rank = t; term = term }
copied id t term same is = ap (λ (g : Ground). (let f : PlainEvent = record { id = id; rank = t; term = g } in f)) is

pub returns-in-Err : goal.returns-in-Err
returns-in-Err g c =
    let rank = g.T.Moment.rank in
    let events = c.self.inside.store.events in
    let limits = c.self.inside.limits in
    let hist = history_of rank events in
    let e : PlainEvent = record { id = c.args.id; rank = rank c.args.at; term = ground_of c.args.term.now } in
    let f : PlainEvent = record { id = c.args.id; rank = rank c.args.at; term = c.in_ok-term.term } in
    let absent : has_id c.args.id hist ≡ false = has_id-slot_of rank c.args.id events ∙ sym (ap is_some c.find.ensures.slot) ∙ sym c.is_some.ensures ∙ c.if-is_some.false in
    let count = c.len.ensures.len ∙ sym (length-map events (plain_of rank)) in
    let whole = admitted-by c.args.self (record { theory = theory_under limits; all = keeps_all limits; events = hist }) e f c.self.view_is (copied c.args.id (rank c.args.at) (ground_of c.args.term.now) c.in_ok-term.term c.in_ok-term.ensures) absent
    (subst (λ n. n < most_events) count c.if-len-ge-MOST_EVENTS.false) in
    record {
      goes = subst (λ (made : Result (List PlainEvent) EventName). IsRefusal c.args.line made c.in-Err.fault) (sym whole) (c.in-Err.ensures.let_in hist c.len.ensures.history absent c.self.invariant);
    }

pub invariant_of-result : goal.invariant_of-result
invariant_of-result g c =
    let rank = g.T.Moment.rank in
    let events = c.self.inside.store.events in
    let hist = history_of rank events in
    let f : PlainEvent = record { id = c.args.id; rank = rank c.args.at; term = c.in_ok-term.term } in
    let absent : has_id c.args.id hist ≡ false = has_id-slot_of rank c.args.id events ∙ sym (ap is_some c.find.ensures.slot) ∙ sym c.is_some.ensures ∙ c.if-is_some.false in
    let goes = c.in-Ok.ensures.let_in hist c.len.ensures.history absent c.self.invariant in
    let new : history_of rank c.insert.new.self.events ≡ with_event f hist = c.insert.ensures.history ∙ ap (λ (ks : List (Kept _)). with_event f (history_of rank ks)) c.reserve.ensures.same in
    subst (λ (es : List PlainEvent). AreLimitsOf rank es c.in-Ok.limits) (sym new) goes.1

pub returns : goal.returns
returns g c =
    let rank = g.T.Moment.rank in
    let events = c.self.inside.store.events in
    let limits = c.self.inside.limits in
    let hist = history_of rank events in
    let e : PlainEvent = record { id = c.args.id; rank = rank c.args.at; term = ground_of c.args.term.now } in
    let f : PlainEvent = record { id = c.args.id; rank = rank c.args.at; term = c.in_ok-term.term } in
    let absent : has_id c.args.id hist ≡ false = has_id-slot_of rank c.args.id events ∙ sym (ap is_some c.find.ensures.slot) ∙ sym c.is_some.ensures ∙ c.if-is_some.false in
    let count = c.len.ensures.len ∙ sym (length-map events (plain_of rank)) in
    let whole = admitted-by c.args.self (record { theory = theory_under limits; all = keeps_all limits; events = hist }) e f c.self.view_is (copied c.args.id (rank c.args.at) (ground_of c.args.term.now) c.in_ok-term.term c.in_ok-term.ensures) absent
    (subst (λ n. n < most_events) count c.if-len-ge-MOST_EVENTS.false) in
    let goes = c.in-Ok.ensures.let_in hist c.len.ensures.history absent c.self.invariant in
    let new : history_of rank c.insert.new.self.events ≡ with_event f hist = c.insert.ensures.history ∙ ap (λ (ks : List (Kept _)). with_event f (history_of rank ks)) c.reserve.ensures.same in
    let theory = goes.2 ∙ ap (λ (r : EventsSoFar). r.theory) c.self.view_is in
    let all = goes.3 ∙ ap (λ (r : EventsSoFar). r.all) c.self.view_is in
    record {
      goes = (whole ∙ goes.0 ∙ ap Ok (sym new), ap₂ (λ (t : Theory) (a : Bool). (let r : EventsSoFar = record { theory = t; all = a; events = history_of rank c.insert.new.self.events } in r)) theory all);
    }
