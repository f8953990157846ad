-- A batch is tried, and its walk is carried out.
use Rattle.std.proofs.Common.{◌≡◌, map, sym, ap, subst, ◌∙◌}
use Rattle.std.specs.Prelude.{Ok, Err}
use Rattle.std.proofs.lemmas.List.{length-map}
use Rattle.ec_axioms.specs.Events.{plain_update}
use Rattle.ec_store.specs.Store.{history_of}
use Rattle.ec_parts.specs.StandFor.{StandFor, view_of}
use Rattle.ec_replies.specs.Updates.{updated_by}
use Rattle.ec_batch.specs.declared.refusal.Refusal.TheVariants.{Memory}
use Rattle.ec_batch.specs.Limits.{IsWithinLimits}
use Rattle.ec_batch.specs.Walk.{HasWalkedTo}
use Rattle.ec_batch.proofs.Batches.{goes_ok}
use Rattle.ec_batch.proofs.Moved.{HasWalkedTo-moved}
use Rattle.ec_watch.specs.Tails.{AreTails}
use Rattle.ec_engine.specs.Revise.{IsRevised, most_steps, steps_between}
use Rattle.ec_engine.specs.Standing.{Standing}
use Rattle.ec_engine.proofs.Carried.{IsCarriedOut-moved}
use Rattle.ec_engine.proofs.Revising.{IsRevised-carried, IsRevised-no_memory, IsRevised-none, IsRevised-refused, most_steps-carried, most_steps-least, stands_refused, updates-some}
use Rattle.ec_engine.proofs.Standings.{IsEngine-standing, seen-same, within-same}
use Rattle.ec_engine.proofs.StepSums.{sums-refused, sums-revised}
use Rattle.ec_engine.proofs.WatchedTails.{AreTails-moved, AreTails-same}
use Rattle.ec_engine.proofs.engine.Engine.revise_watched.Goals as goal

pub returns-then-is_empty-clause-revised : goal.returns-then-is_empty-clause-revised
returns-then-is_empty-clause-revised g c =
    IsRevised-none c.args.self.now.theory c.args.self.now.events (plain_update g.T.Moment.rank) c.args.batch.now c.is_empty.result c.is_empty.ensures c.if-is_empty.true

pub invariant_of-self : goal.invariant_of-self
invariant_of-self g c =
    let rank = g.T.Moment.rank in
    let inside = c.deref_mut-parts.result.now in
    let later = c.attempt.new.parts in
    let hist = history_of rank inside.store.events in
    let stand = stands_refused rank inside.checked inside.store.events (map (plain_update rank) c.args.batch.now) (view_of later) c.attempt.new.tally c.in-Err.refusal c.in-Err.ensures.goes in
    IsEngine-standing rank later.checked hist (view_of later) c.attempt.new.tally
    (subst (λ t. StandFor rank t hist (view_of later) c.attempt.new.tally) (sym c.in-Err.ensures.theory) stand)
    (subst (λ t. IsWithinLimits t hist) (sym c.in-Err.ensures.theory) (within-same rank c.deref_mut-parts.result.now c.self.inside.parts.value c.deref_mut-parts.ensures.value c.self.invariant.within))

pub returns-in-Err-clause-revised : goal.returns-in-Err-clause-revised
returns-in-Err-clause-revised g c =
    let rank = g.T.Moment.rank in
    let inside = c.deref_mut-parts.result.now in
    let later = c.attempt.new.parts in
    let updates = map (plain_update rank) c.args.batch.now in
    subst (λ (s : Standing). IsRevised s.theory s.events updates (Err c.in-Err.refusal) (history_of rank later.store.events)) (seen-same rank c.deref_mut-parts.result.now c.self.inside.parts.value c.args.self.now c.deref_mut-parts.ensures.value c.self.view_is)
    (IsRevised-refused rank inside.checked inside.store.events updates (view_of later) c.attempt.new.tally c.in-Err.refusal c.in-Err.ensures.goes)

pub returns-in-Err-clause-steps : goal.returns-in-Err-clause-steps
returns-in-Err-clause-steps g c =
    let updates = map (plain_update g.T.Moment.rank) c.args.batch.now in
    sums-refused _ _ c.attempt.ensures.all_steps (length-map c.args.batch.now (plain_update g.T.Moment.rank)) (most_steps-least c.args.self.now.theory c.args.self.now.events updates)

pub carry_out-carried-requires-clause-walked : goal.carry_out-carried-requires-clause-walked
carry_out-carried-requires-clause-walked g c =
    let rank = g.T.Moment.rank in
    let inside = c.deref_mut-parts.result.now in
    let later = c.attempt.new.parts in
    let went = goes_ok (updated_by inside.checked (history_of rank inside.store.events) (map (plain_update rank) c.args.batch.now))
    (λ after. HasWalkedTo rank inside.checked inside.store.events after (view_of later) c.attempt.new.tally c.in-Ok.walk) c.in-Ok.ensures.goes in
    record {
      soon = went.0;
      to = HasWalkedTo-moved rank inside.checked later.checked inside.store.events later.store.events went.0 (view_of later) c.attempt.new.tally c.in-Ok.walk c.in-Ok.ensures.theory (ap (λ s. s.events) c.in-Ok.ensures.store) went.2;
    }

pub invariant_of-self-in-Err-carried : goal.invariant_of-self-in-Err-carried
invariant_of-self-in-Err-carried g c =
    let rank = g.T.Moment.rank in
    let inside = c.deref_mut-parts.result.now in
    let later = c.attempt.new.parts in
    let last = c.carry_out-carried.new.parts in
    let counted = c.carry_out-carried.new.tally in
    let hist = history_of rank inside.store.events in
    let updates = map (plain_update rank) c.args.batch.now in
    let stored = ap (λ s. s.events) c.in-Ok.ensures.store in
    let went = goes_ok (updated_by inside.checked hist updates) (λ after. HasWalkedTo rank inside.checked inside.store.events after (view_of later) c.attempt.new.tally c.in-Ok.walk) c.in-Ok.ensures.goes in
    let walked = HasWalkedTo-moved rank inside.checked later.checked inside.store.events later.store.events went.0 (view_of later) c.attempt.new.tally c.in-Ok.walk c.in-Ok.ensures.theory stored went.2 in
    let carried = IsCarriedOut-moved rank inside.checked later.checked inside.store.events later.store.events went.0 (view_of last) counted (Err c.in-Err-carried.none) c.in-Ok.ensures.theory stored
    (c.in-Err-carried.ensures.carried went.0 walked) in
    let theories = c.carry_out-carried.ensures.theory ∙ c.in-Ok.ensures.theory in
    IsEngine-standing rank last.checked hist (view_of last) counted (subst (λ t. StandFor rank t hist (view_of last) counted) (sym theories) carried)
    (subst (λ t. IsWithinLimits t hist) (sym theories) (within-same rank c.deref_mut-parts.result.now c.self.inside.parts.value c.deref_mut-parts.ensures.value c.self.invariant.within))

pub returns-in-Err-carried-clause-revised : goal.returns-in-Err-carried-clause-revised
returns-in-Err-carried-clause-revised g c =
    let rank = g.T.Moment.rank in
    let inside = c.deref_mut-parts.result.now in
    let later = c.attempt.new.parts in
    let last = c.carry_out-carried.new.parts in
    let counted = c.carry_out-carried.new.tally in
    let hist = history_of rank inside.store.events in
    let updates = map (plain_update rank) c.args.batch.now in
    let stored = ap (λ s. s.events) c.in-Ok.ensures.store in
    let went = goes_ok (updated_by inside.checked hist updates) (λ after. HasWalkedTo rank inside.checked inside.store.events after (view_of later) c.attempt.new.tally c.in-Ok.walk) c.in-Ok.ensures.goes in
    let walked = HasWalkedTo-moved rank inside.checked later.checked inside.store.events later.store.events went.0 (view_of later) c.attempt.new.tally c.in-Ok.walk c.in-Ok.ensures.theory stored went.2 in
    let carried = IsCarriedOut-moved rank inside.checked later.checked inside.store.events later.store.events went.0 (view_of last) counted (Err c.in-Err-carried.none) c.in-Ok.ensures.theory stored
    (c.in-Err-carried.ensures.carried went.0 walked) in
    subst (λ (s : Standing). IsRevised s.theory s.events updates (Err (Memory c.in-Err-carried.none)) (history_of rank last.store.events)) (seen-same rank c.deref_mut-parts.result.now c.self.inside.parts.value c.args.self.now c.deref_mut-parts.ensures.value c.self.view_is)
    (IsRevised-no_memory rank inside.checked hist went.0 updates (view_of last) counted went.1 (updates-some (plain_update rank) c.args.batch.now c.is_empty.result c.is_empty.ensures c.if-is_empty.false) c.in-Err-carried.none carried)

pub returns-in-Err-carried-clause-steps : goal.returns-in-Err-carried-clause-steps
returns-in-Err-carried-clause-steps g c =
    let rank = g.T.Moment.rank in
    let inside = c.deref_mut-parts.result.now in
    let later = c.attempt.new.parts in
    let last = c.carry_out-carried.new.parts in
    let counted = c.carry_out-carried.new.tally in
    let hist = history_of rank inside.store.events in
    let updates = map (plain_update rank) c.args.batch.now in
    let stored = ap (λ s. s.events) c.in-Ok.ensures.store in
    let went = goes_ok (updated_by inside.checked hist updates) (λ after. HasWalkedTo rank inside.checked inside.store.events after (view_of later) c.attempt.new.tally c.in-Ok.walk) c.in-Ok.ensures.goes in
    let walked = HasWalkedTo-moved rank inside.checked later.checked inside.store.events later.store.events went.0 (view_of later) c.attempt.new.tally c.in-Ok.walk c.in-Ok.ensures.theory stored went.2 in
    let carried = c.carry_out-carried.ensures.steps went.0 walked in
    let moved : steps_between later.checked (history_of rank later.store.events) went.0 ≡ steps_between inside.checked hist went.0 =
    ap (λ t. steps_between t (history_of rank later.store.events) went.0) c.in-Ok.ensures.theory ∙ ap (λ es. steps_between inside.checked (history_of rank es) went.0) stored in
    let most = most_steps-carried rank inside.checked hist went.0 updates (view_of last) counted went.1 in
    let seen = ap (λ (s : Standing). most_steps s.theory s.events updates) (seen-same rank c.deref_mut-parts.result.now c.self.inside.parts.value c.args.self.now c.deref_mut-parts.ensures.value c.self.view_is) in
    sums-revised _ _ _ c.in-Ok.ensures.steps c.in-Ok.ensures.len carried moved (length-map c.args.batch.now (plain_update rank)) most seen

pub invariant_of-self-2 : goal.invariant_of-self-2
invariant_of-self-2 g c =
    let rank = g.T.Moment.rank in
    let inside = c.deref_mut-parts.result.now in
    let later = c.attempt.new.parts in
    let last = c.carry_out-carried.new.parts in
    let counted = c.carry_out-carried.new.tally in
    let hist = history_of rank inside.store.events in
    let updates = map (plain_update rank) c.args.batch.now in
    let stored = ap (λ s. s.events) c.in-Ok.ensures.store in
    let went = goes_ok (updated_by inside.checked hist updates) (λ after. HasWalkedTo rank inside.checked inside.store.events after (view_of later) c.attempt.new.tally c.in-Ok.walk) c.in-Ok.ensures.goes in
    let walked = HasWalkedTo-moved rank inside.checked later.checked inside.store.events later.store.events went.0 (view_of later) c.attempt.new.tally c.in-Ok.walk c.in-Ok.ensures.theory stored went.2 in
    let carried = IsCarriedOut-moved rank inside.checked later.checked inside.store.events later.store.events went.0 (view_of last) counted (Ok c.in-Ok-carried.seen) c.in-Ok.ensures.theory stored
    (c.in-Ok-carried.ensures.carried went.0 walked) in
    let theories = c.carry_out-carried.ensures.theory ∙ c.in-Ok.ensures.theory in
    IsEngine-standing rank last.checked went.0 (view_of last) counted (subst (λ t. StandFor rank t went.0 (view_of last) counted) (sym theories) carried.0)
    (subst (λ t. IsWithinLimits t went.0) (sym theories) went.2.within)

pub returns-clause-revised : goal.returns-clause-revised
returns-clause-revised g c =
    let rank = g.T.Moment.rank in
    let inside = c.deref_mut-parts.result.now in
    let later = c.attempt.new.parts in
    let last = c.carry_out-carried.new.parts in
    let counted = c.carry_out-carried.new.tally in
    let hist = history_of rank inside.store.events in
    let updates = map (plain_update rank) c.args.batch.now in
    let stored = ap (λ s. s.events) c.in-Ok.ensures.store in
    let went = goes_ok (updated_by inside.checked hist updates) (λ after. HasWalkedTo rank inside.checked inside.store.events after (view_of later) c.attempt.new.tally c.in-Ok.walk) c.in-Ok.ensures.goes in
    let walked = HasWalkedTo-moved rank inside.checked later.checked inside.store.events later.store.events went.0 (view_of later) c.attempt.new.tally c.in-Ok.walk c.in-Ok.ensures.theory stored went.2 in
    let carried = IsCarriedOut-moved rank inside.checked later.checked inside.store.events later.store.events went.0 (view_of last) counted (Ok c.in-Ok-carried.seen) c.in-Ok.ensures.theory stored
    (c.in-Ok-carried.ensures.carried went.0 walked) in
    subst (λ (s : Standing). IsRevised s.theory s.events updates (Ok c.in-Ok-carried.seen) (history_of rank last.store.events)) (seen-same rank c.deref_mut-parts.result.now c.self.inside.parts.value c.args.self.now c.deref_mut-parts.ensures.value c.self.view_is)
    (IsRevised-carried rank inside.checked hist went.0 updates (view_of last) counted went.1 c.in-Ok-carried.seen carried)

pub returns-clause-steps : goal.returns-clause-steps
returns-clause-steps g c =
    let rank = g.T.Moment.rank in
    let inside = c.deref_mut-parts.result.now in
    let later = c.attempt.new.parts in
    let last = c.carry_out-carried.new.parts in
    let counted = c.carry_out-carried.new.tally in
    let hist = history_of rank inside.store.events in
    let updates = map (plain_update rank) c.args.batch.now in
    let stored = ap (λ s. s.events) c.in-Ok.ensures.store in
    let went = goes_ok (updated_by inside.checked hist updates) (λ after. HasWalkedTo rank inside.checked inside.store.events after (view_of later) c.attempt.new.tally c.in-Ok.walk) c.in-Ok.ensures.goes in
    let walked = HasWalkedTo-moved rank inside.checked later.checked inside.store.events later.store.events went.0 (view_of later) c.attempt.new.tally c.in-Ok.walk c.in-Ok.ensures.theory stored went.2 in
    let carried = c.carry_out-carried.ensures.steps went.0 walked in
    let moved : steps_between later.checked (history_of rank later.store.events) went.0 ≡ steps_between inside.checked hist went.0 =
    ap (λ t. steps_between t (history_of rank later.store.events) went.0) c.in-Ok.ensures.theory ∙ ap (λ es. steps_between inside.checked (history_of rank es) went.0) stored in
    let most = most_steps-carried rank inside.checked hist went.0 updates (view_of last) counted went.1 in
    let seen = ap (λ (s : Standing). most_steps s.theory s.events updates) (seen-same rank c.deref_mut-parts.result.now c.self.inside.parts.value c.args.self.now c.deref_mut-parts.ensures.value c.self.view_is) in
    sums-revised _ _ _ c.in-Ok.ensures.steps c.in-Ok.ensures.len carried moved (length-map c.args.batch.now (plain_update rank)) most seen

pub returns-clause-tails : goal.returns-clause-tails
returns-clause-tails g c =
    let rank = g.T.Moment.rank in
    let inside = c.deref_mut-parts.result.now in
    let later = c.attempt.new.parts in
    let last = c.carry_out-carried.new.parts in
    let counted = c.carry_out-carried.new.tally in
    let hist = history_of rank inside.store.events in
    let updates = map (plain_update rank) c.args.batch.now in
    let stored = ap (λ s. s.events) c.in-Ok.ensures.store in
    let went = goes_ok (updated_by inside.checked hist updates) (λ after. HasWalkedTo rank inside.checked inside.store.events after (view_of later) c.attempt.new.tally c.in-Ok.walk) c.in-Ok.ensures.goes in
    let walked = HasWalkedTo-moved rank inside.checked later.checked inside.store.events later.store.events went.0 (view_of later) c.attempt.new.tally c.in-Ok.walk c.in-Ok.ensures.theory stored went.2 in
    let carried = IsCarriedOut-moved rank inside.checked later.checked inside.store.events later.store.events went.0 (view_of last) counted (Ok c.in-Ok-carried.seen) c.in-Ok.ensures.theory stored
    (c.in-Ok-carried.ensures.carried went.0 walked) in
    subst (λ (s : Standing). AreTails rank s.theory s.events (history_of rank last.store.events) c.args.watched.now c.swap.new.y) (seen-same rank c.deref_mut-parts.result.now c.self.inside.parts.value c.args.self.now c.deref_mut-parts.ensures.value c.self.view_is)
    (subst (AreTails rank inside.checked hist (history_of rank last.store.events) c.args.watched.now) (sym c.swap.ensures.y_after)
    (AreTails-moved rank inside.checked later.checked inside.store.events later.store.events went.0 (history_of rank last.store.events) c.args.watched.now c.carry_out-carried.new.room.tails
    c.in-Ok.ensures.theory stored carried.0.both.caches.events_of (c.in-Ok-carried.ensures.tails went.0 walked)))

pub returns-then-is_empty-clause-tails : goal.returns-then-is_empty-clause-tails
returns-then-is_empty-clause-tails g c =
    AreTails-same g.T.Moment.rank c.args.self.now.theory c.args.self.now.events c.args.watched.now c.clear.new.self c.clear.ensures
