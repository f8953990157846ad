-- The walk begins at no event.
use Rattle.std.proofs.Common.{◌≡◌, [], map, sym, ap, subst, ◌∙◌}
use Rattle.ec_axioms.specs.Events.{event_of}
use Rattle.ec_store.specs.Store.{history_of}
use Rattle.ec_parts.specs.StandFor.{StandFor, view_of}
use Rattle.ec_batch.specs.Build.{history_from}
use Rattle.ec_batch.specs.Limits.{IsWithinLimits}
use Rattle.ec_batch.specs.Walk.{HasWalkedTo}
use Rattle.ec_batch.proofs.Moved.{HasWalkedTo-moved}
use Rattle.ec_engine.specs.Revise.{steps_between}
use Rattle.ec_engine.proofs.Standings.{IsWithinLimits-none}
use Rattle.ec_engine.proofs.StepSums.{sums-filled}
use Rattle.ec_engine.proofs.WatchedTails.{no_rows-ascend}
use Rattle.ec_engine.proofs.WorkDone.{steps_between-none}
use Rattle.ec_engine.proofs.building.fill.Goals as goal

pub start-walk-requires-clause-within : goal.start-walk-requires-clause-within
start-walk-requires-clause-within g c =
    subst (λ es. IsWithinLimits c.args.parts.now.checked es) (sym c.requires.stand.both.caches.events_of) (IsWithinLimits-none c.args.parts.now.checked)

pub walk_in-requires-clause-walked : goal.walk_in-requires-clause-walked
walk_in-requires-clause-walked g c =
    subst (λ es. HasWalkedTo g.T.Moment.rank c.args.parts.now.checked c.args.parts.now.store.events es (view_of c.args.parts.now) c.args.tally.now c.start-walk.result) c.requires.stand.both.caches.events_of c.start-walk.ensures.walked

pub walk_in-requires-clause-own : goal.walk_in-requires-clause-own
walk_in-requires-clause-own g c = c.requires.own

pub walk_in-requires-clause-within : goal.walk_in-requires-clause-within
walk_in-requires-clause-within g c = c.requires.within

pub carry_out-requires-clause-walked : goal.carry_out-requires-clause-walked
carry_out-requires-clause-walked g c =
    let built = history_from (map (event_of g.T.Moment.rank) c.args.list.now) in
    let later = c.walk_in.new.parts in
    record {
      soon = built;
      to = HasWalkedTo-moved g.T.Moment.rank c.args.parts.now.checked later.checked c.args.parts.now.store.events later.store.events built (view_of later) c.walk_in.new.tally c.walk_in.new.walk
          c.walk_in.ensures.theory (ap (λ s. s.events) c.walk_in.ensures.store) c.in_ok-walk_in.ensures.goes;
    }

pub returns-clause-filled : goal.returns-clause-filled
returns-clause-filled g c =
    let rank = g.T.Moment.rank in
    let built = history_from (map (event_of rank) c.args.list.now) in
    let later = c.walk_in.new.parts in
    let walked = HasWalkedTo-moved rank c.args.parts.now.checked later.checked c.args.parts.now.store.events later.store.events built (view_of later) c.walk_in.new.tally c.walk_in.new.walk
    c.walk_in.ensures.theory (ap (λ s. s.events) c.walk_in.ensures.store) c.in_ok-walk_in.ensures.goes in
    subst (λ t. StandFor rank t built (view_of c.carry_out.new.parts) c.carry_out.new.tally) c.walk_in.ensures.theory (c.in_ok-carry_out.ensures.carried built walked).0

pub returns-in_err-carry_out-clause-steps : goal.returns-in_err-carry_out-clause-steps
returns-in_err-carry_out-clause-steps g c =
    let rank = g.T.Moment.rank in
    let built = history_from (map (event_of rank) c.args.list.now) in
    let later = c.walk_in.new.parts in
    let walked = HasWalkedTo-moved rank c.args.parts.now.checked later.checked c.args.parts.now.store.events later.store.events built (view_of later) c.walk_in.new.tally c.walk_in.new.walk
    c.walk_in.ensures.theory (ap (λ s. s.events) c.walk_in.ensures.store) c.in_ok-walk_in.ensures.goes in
    let carried = c.carry_out.ensures.steps built walked in
    let from_none : steps_between later.checked (history_of rank later.store.events) built ≡ steps_between c.args.parts.now.checked [] built =
    ap (λ t. steps_between t (history_of rank later.store.events) built) c.walk_in.ensures.theory
    ∙ ap (λ s. steps_between c.args.parts.now.checked (history_of rank s.events) built) c.walk_in.ensures.store
    ∙ ap (λ es. steps_between c.args.parts.now.checked es built) c.requires.stand.both.caches.events_of in
    sums-filled _ _ _ _ carried from_none (steps_between-none c.args.parts.now.checked built) c.walk_in.ensures.len c.start-walk.ensures.len

pub returns-clause-steps : goal.returns-clause-steps
returns-clause-steps g c =
    let rank = g.T.Moment.rank in
    let built = history_from (map (event_of rank) c.args.list.now) in
    let later = c.walk_in.new.parts in
    let walked = HasWalkedTo-moved rank c.args.parts.now.checked later.checked c.args.parts.now.store.events later.store.events built (view_of later) c.walk_in.new.tally c.walk_in.new.walk
    c.walk_in.ensures.theory (ap (λ s. s.events) c.walk_in.ensures.store) c.in_ok-walk_in.ensures.goes in
    let carried = c.carry_out.ensures.steps built walked in
    let from_none : steps_between later.checked (history_of rank later.store.events) built ≡ steps_between c.args.parts.now.checked [] built =
    ap (λ t. steps_between t (history_of rank later.store.events) built) c.walk_in.ensures.theory
    ∙ ap (λ s. steps_between c.args.parts.now.checked (history_of rank s.events) built) c.walk_in.ensures.store
    ∙ ap (λ es. steps_between c.args.parts.now.checked es built) c.requires.stand.both.caches.events_of in
    sums-filled _ _ _ _ carried from_none (steps_between-none c.args.parts.now.checked built) c.walk_in.ensures.len c.start-walk.ensures.len

pub carry_out-requires-clause-ascend : goal.carry_out-requires-clause-ascend
carry_out-requires-clause-ascend g c = no_rows-ascend
