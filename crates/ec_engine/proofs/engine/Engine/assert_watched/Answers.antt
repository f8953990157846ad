-- The event arrives, and its change is carried out.
use Rattle.std.proofs.Common.{◌≡◌, [], ◌∷◌, sym, ap, subst, ◌∙◌, arith}
use Rattle.std.specs.Prelude.{Ok, Err}
use Rattle.ec_terms.specs.Term.{ground_of}
use Rattle.ec_axioms.specs.Calculus.{PlainEvent}
use Rattle.ec_axioms.specs.Changes.{asserting, with_event}
use Rattle.ec_store.specs.Store.{history_of}
use Rattle.ec_parts.specs.StandFor.{StandFor, view_of}
use Rattle.ec_batch.specs.declared.refusal.Refusal.TheVariants.{Memory}
use Rattle.ec_batch.specs.Limits.{IsWithinLimits}
use Rattle.ec_watch.specs.Tails.{AreTails}
use Rattle.ec_engine.specs.Revise.{IsRevised, most_steps, steps_between}
use Rattle.ec_engine.specs.Standing.{Standing}
use Rattle.ec_engine.proofs.Arrivals.{IsRevised-turned_away, LeadsTo-moved, stands_turned_away}
use Rattle.ec_engine.proofs.Carried.{IsCarriedOut-moved}
use Rattle.ec_engine.proofs.Revising.{IsRevised-carried, IsRevised-no_memory, most_steps-carried}
use Rattle.ec_engine.proofs.Standings.{IsEngine-standing, seen-same, within-same}
use Rattle.ec_engine.proofs.StepSums.{sums-arrived}
use Rattle.ec_engine.proofs.WatchedTails.{AreTails-moved}
use Rattle.ec_engine.proofs.engine.Engine.assert_watched.Goals as goal

pub invariant_of-self : goal.invariant_of-self
invariant_of-self g c =
    let rank = g.T.Moment.rank in
    let inside = c.deref_mut-parts.result.now in
    let later = c.arrive-arrived.new.parts in
    let hist = history_of rank inside.store.events in
    let e : PlainEvent = record { id = c.args.id; rank = rank c.args.at; term = ground_of c.args.event.now } in
    let stand = stands_turned_away rank inside.checked inside.store.events e (view_of later) c.arrive-arrived.new.tally c.in-Err.refusal c.in-Err.ensures.arrived in
    IsEngine-standing rank later.checked hist (view_of later) c.arrive-arrived.new.tally
    (subst (λ t. StandFor rank t hist (view_of later) c.arrive-arrived.new.tally) (sym c.arrive-arrived.ensures.theory) stand)
    (subst (λ t. IsWithinLimits t hist) (sym c.arrive-arrived.ensures.theory) (within-same rank c.deref_mut-parts.result.now c.self.inside.parts.value c.deref_mut-parts.ensures.value c.self.invariant.within))

pub returns-in-Err-clause-revised : goal.returns-in-Err-clause-revised
returns-in-Err-clause-revised g c =
    let rank = g.T.Moment.rank in
    let inside = c.deref_mut-parts.result.now in
    let later = c.arrive-arrived.new.parts in
    let e : PlainEvent = record { id = c.args.id; rank = rank c.args.at; term = ground_of c.args.event.now } in
    subst (λ (s : Standing). IsRevised s.theory s.events (asserting e ∷ []) (Err c.in-Err.refusal) (history_of rank later.store.events)) (seen-same rank c.deref_mut-parts.result.now c.self.inside.parts.value c.args.self.now c.deref_mut-parts.ensures.value c.self.view_is)
    (IsRevised-turned_away rank inside.checked inside.store.events e (view_of later) c.arrive-arrived.new.tally c.in-Err.refusal c.in-Err.ensures.arrived)

pub carry_change-carried-requires-clause-leads : goal.carry_change-carried-requires-clause-leads
carry_change-carried-requires-clause-leads g c =
    let rank = g.T.Moment.rank in
    let inside = c.deref_mut-parts.result.now in
    let later = c.arrive-arrived.new.parts in
    let hist = history_of rank inside.store.events in
    let e : PlainEvent = record { id = c.args.id; rank = rank c.args.at; term = ground_of c.args.event.now } in
    let soon = with_event e hist in
    let stored = ap (λ s. s.events) c.in-Ok.ensures.store in
    let came = c.in-Ok.ensures.arrived in
    let leads = LeadsTo-moved rank inside.checked later.checked (view_of later) c.arrive-arrived.new.tally c.in-Ok.arrival.change c.in-Ok.arrival.fresh.items c.as_slice.result.now [] soon c.arrive-arrived.ensures.theory c.as_slice.ensures.value came.1 in
    record { soon = soon; to = leads }

pub invariant_of-self-in-Err-carried : goal.invariant_of-self-in-Err-carried
invariant_of-self-in-Err-carried g c =
    let rank = g.T.Moment.rank in
    let inside = c.deref_mut-parts.result.now in
    let later = c.arrive-arrived.new.parts in
    let last = c.carry_change-carried.new.parts in
    let counted = c.carry_change-carried.new.tally in
    let hist = history_of rank inside.store.events in
    let e : PlainEvent = record { id = c.args.id; rank = rank c.args.at; term = ground_of c.args.event.now } in
    let soon = with_event e hist in
    let stored = ap (λ s. s.events) c.in-Ok.ensures.store in
    let came = c.in-Ok.ensures.arrived in
    let leads = LeadsTo-moved rank inside.checked later.checked (view_of later) c.arrive-arrived.new.tally c.in-Ok.arrival.change c.in-Ok.arrival.fresh.items c.as_slice.result.now [] soon c.arrive-arrived.ensures.theory c.as_slice.ensures.value came.1 in
    let carried = IsCarriedOut-moved rank inside.checked later.checked inside.store.events later.store.events soon (view_of last) counted (Err c.in-Err-carried.none) c.arrive-arrived.ensures.theory stored
    (c.in-Err-carried.ensures.carried soon leads) in
    let theories = c.carry_change-carried.ensures.theory ∙ c.arrive-arrived.ensures.theory in
    IsEngine-standing rank last.checked hist (view_of last) counted (subst (λ t. StandFor rank t hist (view_of last) counted) (sym theories) carried)
    (subst (λ t. IsWithinLimits t hist) (sym theories) (within-same rank c.deref_mut-parts.result.now c.self.inside.parts.value c.deref_mut-parts.ensures.value c.self.invariant.within))

pub returns-in-Err-carried-clause-revised : goal.returns-in-Err-carried-clause-revised
returns-in-Err-carried-clause-revised g c =
    let rank = g.T.Moment.rank in
    let inside = c.deref_mut-parts.result.now in
    let later = c.arrive-arrived.new.parts in
    let last = c.carry_change-carried.new.parts in
    let counted = c.carry_change-carried.new.tally in
    let hist = history_of rank inside.store.events in
    let e : PlainEvent = record { id = c.args.id; rank = rank c.args.at; term = ground_of c.args.event.now } in
    let soon = with_event e hist in
    let stored = ap (λ s. s.events) c.in-Ok.ensures.store in
    let came = c.in-Ok.ensures.arrived in
    let leads = LeadsTo-moved rank inside.checked later.checked (view_of later) c.arrive-arrived.new.tally c.in-Ok.arrival.change c.in-Ok.arrival.fresh.items c.as_slice.result.now [] soon c.arrive-arrived.ensures.theory c.as_slice.ensures.value came.1 in
    let carried = IsCarriedOut-moved rank inside.checked later.checked inside.store.events later.store.events soon (view_of last) counted (Err c.in-Err-carried.none) c.arrive-arrived.ensures.theory stored
    (c.in-Err-carried.ensures.carried soon leads) in
    subst (λ (s : Standing). IsRevised s.theory s.events (asserting e ∷ []) (Err (Memory c.in-Err-carried.none)) (history_of rank last.store.events)) (seen-same rank c.deref_mut-parts.result.now c.self.inside.parts.value c.args.self.now c.deref_mut-parts.ensures.value c.self.view_is)
    (IsRevised-no_memory rank inside.checked hist soon (asserting e ∷ []) (view_of last) counted came.0 (omega arith) c.in-Err-carried.none carried)

pub returns-in-Err-carried-clause-steps : goal.returns-in-Err-carried-clause-steps
returns-in-Err-carried-clause-steps g c =
    let rank = g.T.Moment.rank in
    let inside = c.deref_mut-parts.result.now in
    let later = c.arrive-arrived.new.parts in
    let last = c.carry_change-carried.new.parts in
    let counted = c.carry_change-carried.new.tally in
    let hist = history_of rank inside.store.events in
    let e : PlainEvent = record { id = c.args.id; rank = rank c.args.at; term = ground_of c.args.event.now } in
    let soon = with_event e hist in
    let stored = ap (λ s. s.events) c.in-Ok.ensures.store in
    let came = c.in-Ok.ensures.arrived in
    let leads = LeadsTo-moved rank inside.checked later.checked (view_of later) c.arrive-arrived.new.tally c.in-Ok.arrival.change c.in-Ok.arrival.fresh.items c.as_slice.result.now [] soon c.arrive-arrived.ensures.theory c.as_slice.ensures.value came.1 in
    let carried = c.carry_change-carried.ensures.steps soon leads in
    let moved : steps_between later.checked (history_of rank later.store.events) soon ≡ steps_between inside.checked hist soon =
    ap (λ t. steps_between t (history_of rank later.store.events) soon) c.arrive-arrived.ensures.theory ∙ ap (λ es. steps_between inside.checked (history_of rank es) soon) stored in
    let most = most_steps-carried rank inside.checked hist soon (asserting e ∷ []) (view_of last) counted came.0 in
    let seen = ap (λ (s : Standing). most_steps s.theory s.events (asserting e ∷ [])) (seen-same rank c.deref_mut-parts.result.now c.self.inside.parts.value c.args.self.now c.deref_mut-parts.ensures.value c.self.view_is) in
    sums-arrived _ _ _ carried moved most seen

pub invariant_of-self-2 : goal.invariant_of-self-2
invariant_of-self-2 g c =
    let rank = g.T.Moment.rank in
    let inside = c.deref_mut-parts.result.now in
    let later = c.arrive-arrived.new.parts in
    let last = c.carry_change-carried.new.parts in
    let counted = c.carry_change-carried.new.tally in
    let hist = history_of rank inside.store.events in
    let e : PlainEvent = record { id = c.args.id; rank = rank c.args.at; term = ground_of c.args.event.now } in
    let soon = with_event e hist in
    let stored = ap (λ s. s.events) c.in-Ok.ensures.store in
    let came = c.in-Ok.ensures.arrived in
    let leads = LeadsTo-moved rank inside.checked later.checked (view_of later) c.arrive-arrived.new.tally c.in-Ok.arrival.change c.in-Ok.arrival.fresh.items c.as_slice.result.now [] soon c.arrive-arrived.ensures.theory c.as_slice.ensures.value came.1 in
    let carried = IsCarriedOut-moved rank inside.checked later.checked inside.store.events later.store.events soon (view_of last) counted (Ok c.in-Ok-carried.seen) c.arrive-arrived.ensures.theory stored
    (c.in-Ok-carried.ensures.carried soon leads) in
    let theories = c.carry_change-carried.ensures.theory ∙ c.arrive-arrived.ensures.theory in
    IsEngine-standing rank last.checked soon (view_of last) counted (subst (λ t. StandFor rank t soon (view_of last) counted) (sym theories) carried.0)
    (subst (λ t. IsWithinLimits t soon) (sym theories) came.1.within)

pub returns-clause-revised : goal.returns-clause-revised
returns-clause-revised g c =
    let rank = g.T.Moment.rank in
    let inside = c.deref_mut-parts.result.now in
    let later = c.arrive-arrived.new.parts in
    let last = c.carry_change-carried.new.parts in
    let counted = c.carry_change-carried.new.tally in
    let hist = history_of rank inside.store.events in
    let e : PlainEvent = record { id = c.args.id; rank = rank c.args.at; term = ground_of c.args.event.now } in
    let soon = with_event e hist in
    let stored = ap (λ s. s.events) c.in-Ok.ensures.store in
    let came = c.in-Ok.ensures.arrived in
    let leads = LeadsTo-moved rank inside.checked later.checked (view_of later) c.arrive-arrived.new.tally c.in-Ok.arrival.change c.in-Ok.arrival.fresh.items c.as_slice.result.now [] soon c.arrive-arrived.ensures.theory c.as_slice.ensures.value came.1 in
    let carried = IsCarriedOut-moved rank inside.checked later.checked inside.store.events later.store.events soon (view_of last) counted (Ok c.in-Ok-carried.seen) c.arrive-arrived.ensures.theory stored
    (c.in-Ok-carried.ensures.carried soon leads) in
    subst (λ (s : Standing). IsRevised s.theory s.events (asserting e ∷ []) (Ok c.in-Ok-carried.seen) (history_of rank last.store.events)) (seen-same rank c.deref_mut-parts.result.now c.self.inside.parts.value c.args.self.now c.deref_mut-parts.ensures.value c.self.view_is)
    (IsRevised-carried rank inside.checked hist soon (asserting e ∷ []) (view_of last) counted came.0 c.in-Ok-carried.seen carried)

pub returns-clause-steps : goal.returns-clause-steps
returns-clause-steps g c =
    let rank = g.T.Moment.rank in
    let inside = c.deref_mut-parts.result.now in
    let later = c.arrive-arrived.new.parts in
    let last = c.carry_change-carried.new.parts in
    let counted = c.carry_change-carried.new.tally in
    let hist = history_of rank inside.store.events in
    let e : PlainEvent = record { id = c.args.id; rank = rank c.args.at; term = ground_of c.args.event.now } in
    let soon = with_event e hist in
    let stored = ap (λ s. s.events) c.in-Ok.ensures.store in
    let came = c.in-Ok.ensures.arrived in
    let leads = LeadsTo-moved rank inside.checked later.checked (view_of later) c.arrive-arrived.new.tally c.in-Ok.arrival.change c.in-Ok.arrival.fresh.items c.as_slice.result.now [] soon c.arrive-arrived.ensures.theory c.as_slice.ensures.value came.1 in
    let carried = c.carry_change-carried.ensures.steps soon leads in
    let moved : steps_between later.checked (history_of rank later.store.events) soon ≡ steps_between inside.checked hist soon =
    ap (λ t. steps_between t (history_of rank later.store.events) soon) c.arrive-arrived.ensures.theory ∙ ap (λ es. steps_between inside.checked (history_of rank es) soon) stored in
    let most = most_steps-carried rank inside.checked hist soon (asserting e ∷ []) (view_of last) counted came.0 in
    let seen = ap (λ (s : Standing). most_steps s.theory s.events (asserting e ∷ [])) (seen-same rank c.deref_mut-parts.result.now c.self.inside.parts.value c.args.self.now c.deref_mut-parts.ensures.value c.self.view_is) in
    sums-arrived _ _ _ carried moved most seen

pub returns-clause-tails : goal.returns-clause-tails
returns-clause-tails g c =
    let rank = g.T.Moment.rank in
    let inside = c.deref_mut-parts.result.now in
    let later = c.arrive-arrived.new.parts in
    let last = c.carry_change-carried.new.parts in
    let counted = c.carry_change-carried.new.tally in
    let hist = history_of rank inside.store.events in
    let e : PlainEvent = record { id = c.args.id; rank = rank c.args.at; term = ground_of c.args.event.now } in
    let soon = with_event e hist in
    let stored = ap (λ s. s.events) c.in-Ok.ensures.store in
    let came = c.in-Ok.ensures.arrived in
    let leads = LeadsTo-moved rank inside.checked later.checked (view_of later) c.arrive-arrived.new.tally c.in-Ok.arrival.change c.in-Ok.arrival.fresh.items c.as_slice.result.now [] soon c.arrive-arrived.ensures.theory c.as_slice.ensures.value came.1 in
    let carried = IsCarriedOut-moved rank inside.checked later.checked inside.store.events later.store.events soon (view_of last) counted (Ok c.in-Ok-carried.seen) c.arrive-arrived.ensures.theory stored
    (c.in-Ok-carried.ensures.carried soon leads) in
    subst (λ (s : Standing). AreTails rank s.theory s.events (history_of rank last.store.events) c.args.watched.now c.swap.new.y) (seen-same rank c.deref_mut-parts.result.now c.self.inside.parts.value c.args.self.now c.deref_mut-parts.ensures.value c.self.view_is)
    (subst (AreTails rank inside.checked hist (history_of rank last.store.events) c.args.watched.now) (sym c.swap.ensures.y_after)
    (AreTails-moved rank inside.checked later.checked inside.store.events later.store.events soon (history_of rank last.store.events) c.args.watched.now c.carry_change-carried.new.room.tails
    c.arrive-arrived.ensures.theory stored carried.0.both.caches.events_of (c.in-Ok-carried.ensures.tails soon leads)))
