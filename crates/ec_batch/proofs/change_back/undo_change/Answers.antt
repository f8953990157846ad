-- What was to be added goes, what was to be removed comes back, and what is kept newly is forgotten.
use Rattle.std.proofs.Common.{◌≡◌, ℕ, List, Some, All, IsTrue, sym, ap, subst, ◌∙◌}
use Rattle.std.specs.Prelude.{option_map}
use Rattle.ec_axioms.specs.declared.event.Event.{Event}
use Rattle.ec_store.specs.Store.{event_at, history_of}
use Rattle.ec_numbered.specs.PropSet.{has_number}
use Rattle.ec_parts.specs.declared.parts.Parts.{Parts}
use Rattle.ec_parts.specs.StandFor.{StandForBoth, view_of}
use Rattle.ec_revise.specs.declared.change.Removal.{Removal}
use Rattle.ec_revise.specs.Change.{removal_before}
use Rattle.ec_rows.specs.Ordered.{is_ascending}
use Rattle.ec_batch.specs.Idle.{ForgetsListed}
use Rattle.ec_batch.specs.Limits.{IsWithinLimits}
use Rattle.ec_batch.specs.Undo.{untouched}
use Rattle.ec_batch.specs.UndoChange.{removals_by_id}
use Rattle.ec_batch.proofs.change_back.undo_change.Goals as goal

pub restore_removed-requires-clause-stay : goal.restore_removed-requires-clause-stay
restore_removed-requires-clause-stay g c =
    let rank = g.T.Moment.rank in
    let parts = c.release_added.new.parts in
    subst (λ rs. StandForBoth rank parts.checked (history_of rank parts.store.events) (untouched (removals_by_id parts.store.events rs) (history_of rank parts.store.events)) (view_of parts) c.release_added.new.tally)
    (sym c.as_slice.ensures)
    (subst
    (λ (p : Parts _ _ _ _). StandForBoth rank p.checked (history_of rank p.store.events) (untouched (removals_by_id p.store.events c.args.change.now.remove) (history_of rank p.store.events)) (view_of parts) c.release_added.new.tally)
    (sym c.release_added.ensures.rest) c.release_added.ensures.stay)

pub restore_removed-requires-clause-times : goal.restore_removed-requires-clause-times
restore_removed-requires-clause-times g c =
    let AtTimes : List (Removal _) → Parts _ _ _ _ → Type 0 = λ rs p. All (λ (removal : Removal _). option_map (λ (event : Event _). event.at) (event_at removal.slot p.store.events) ≡ Some removal.at) rs in
    subst (λ rs. AtTimes rs c.release_added.new.parts) (sym c.as_slice.ensures) (subst (AtTimes c.args.change.now.remove) (sym c.release_added.ensures.rest) c.requires.led.to.change_is.times)

pub restore_removed-requires-clause-order : goal.restore_removed-requires-clause-order
restore_removed-requires-clause-order g c =
    subst (λ rs. IsTrue (is_ascending (removal_before g.T.Moment.rank) rs)) (sym c.as_slice.ensures) c.requires.led.to.change_is.order

pub restore_removed-requires-clause-within : goal.restore_removed-requires-clause-within
restore_removed-requires-clause-within g c =
    subst (λ (p : Parts _ _ _ _). IsWithinLimits p.checked (history_of g.T.Moment.rank p.store.events)) (sym c.release_added.ensures.rest) c.requires.within

pub returns-clause-stand : goal.returns-clause-stand
returns-clause-stand g c =
    let rank = g.T.Moment.rank in
    let theory = c.args.parts.now.checked in
    let hist = history_of rank c.args.parts.now.store.events in
    let last = c.restore_removed.new.parts in
    let back = subst (λ (p : Parts _ _ _ _). StandForBoth rank p.checked (history_of rank p.store.events) (history_of rank p.store.events) (view_of last) c.restore_removed.new.tally) c.release_added.ensures.rest
    c.restore_removed.ensures.back in
    let same : last.checked ≡ theory = ap (λ (p : Parts _ _ _ _). p.checked) c.restore_removed.ensures.rest ∙ ap (λ (p : Parts _ _ _ _). p.checked) c.release_added.ensures.rest in
    let forgets = subst (λ t. ForgetsListed rank t (λ (id : ℕ). has_number id c.args.fresh.now) (view_of last) (view_of c.forget_idle.new.parts)) same c.forget_idle.ensures.stands in
    forgets hist c.restore_removed.new.tally back
    (λ id p is. c.requires.fresh id p (sym (c.restore_removed.ensures.terms id ∙ c.release_added.ensures.terms id) ∙ is))

pub returns-clause-theory : goal.returns-clause-theory
returns-clause-theory g c =
    c.forget_idle.ensures.theory ∙ ap (λ (p : Parts _ _ _ _). p.checked) c.restore_removed.ensures.rest ∙ ap (λ (p : Parts _ _ _ _). p.checked) c.release_added.ensures.rest
