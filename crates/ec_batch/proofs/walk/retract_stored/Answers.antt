-- The event of the store goes out of the list to come, with its mentions.
use Rattle.std.proofs.Common.{◌≡◌, ◌≤◌, ◌++◌, All, None, IfSome, is_some, refl, sym, ap, subst, ◌∙◌, inl, sub-add_cancel}
use Rattle.ec_context.specs.Entries.{IsKeptEntry}
use Rattle.ec_context.proofs.Shown.{IsKeptEntry-shown}
use Rattle.ec_entries.specs.declared.event_entries.EventEntries.{EventEntries}
use Rattle.ec_store.specs.Store.{history_of}
use Rattle.ec_parts.specs.declared.parts.Parts.{Parts}
use Rattle.ec_parts.specs.Mentions.{AreOfEventsWith, TakeEventOut, list_props}
use Rattle.ec_parts.specs.StandFor.{StandForBoth, view_of}
use Rattle.ec_batch.proofs.Batches.{goes_on}
use Rattle.ec_changes.proofs.FoundEvents.{found-has_event, has_id-found}
use Rattle.ec_batch.proofs.WalkSteps.{stays, goes_out_by, stored_under, AreOfEventsWith-found, some_events, put_as, net_of, retracted_present, may_want-retracted}
use Rattle.ec_batch.proofs.walk.retract_stored.Goals as goal

pub returns-in-Err-clause-goes : goal.returns-in-Err-clause-goes
returns-in-Err-clause-goes g c soon walked =
    let stored = stored_under walked c.args.id.now c.args.slot c.len-2.ensures.slots c.requires.untouched c.requires.slot in (
      may_want-retracted soon c.args.id.now (has_id-found c.args.id.now soon ∙ ap is_some stored.found),
      stays walked _ _ _ refl walked.both (λ id p is. is) (λ id p is. inl is) c.make_room.ensures.same refl (λ id is. is) (λ id is. is),
    )

pub release_slot-requires-clause-there : goal.release_slot-requires-clause-there
release_slot-requires-clause-there g c =
    let stored = stored_under c.requires.walked.to c.args.id.now c.args.slot c.len-2.ensures.slots c.requires.untouched c.requires.slot in ap is_some stored.kept_is

pub release_slot-requires-clause-kept : goal.release_slot-requires-clause-kept
release_slot-requires-clause-kept g c =
    let stored = stored_under c.requires.walked.to c.args.id.now c.args.slot c.len-2.ensures.slots c.requires.untouched c.requires.slot in
    let P : EventEntries _ → Type 0 = λ kept. All (IsKeptEntry c.args.parts.now.props) kept.list in
    subst (λ o. IfSome o P) (sym stored.kept_is) (IsKeptEntry-shown c.args.parts.now.props stored.kept.list _ stored.shown)

pub release_slot-requires-clause-tables : goal.release_slot-requires-clause-tables
release_slot-requires-clause-tables g c =
    let stored = stored_under c.requires.walked.to c.args.id.now c.args.slot c.len-2.ensures.slots c.requires.untouched c.requires.slot in
    let P : EventEntries _ → Type 0 = λ kept. AreOfEventsWith c.args.parts.now.checked kept.list c.args.parts.now.props c.args.parts.now.neighbours c.args.parts.now.points c.args.tally.now in
    subst (λ o. IfSome o P) (sym stored.kept_is) (AreOfEventsWith-found c.requires.walked.to c.args.id.now stored.event stored.kept.list stored.found stored.shown)

pub overflow_sub-walk : goal.overflow_sub-walk
overflow_sub-walk g c =
    let stored = stored_under c.requires.walked.to c.args.id.now c.args.slot c.len-2.ensures.slots c.requires.untouched c.requires.slot in some_events c.requires.walked.to c.args.id.now stored.event stored.found

pub returns-in-Err-release_slot-clause-goes : goal.returns-in-Err-release_slot-clause-goes
returns-in-Err-release_slot-clause-goes g c soon walked =
    let same = c.in-Err-release_slot.ensures.err in
    let stored = stored_under walked c.args.id.now c.args.slot c.len-2.ensures.slots c.requires.untouched c.requires.slot in (
      may_want-retracted soon c.args.id.now (has_id-found c.args.id.now soon ∙ ap is_some stored.found),
      stays walked _ _ _ (ap (λ (p : Parts _ _ _ _). p.store) same)
          (subst (λ tally. StandForBoth g.T.Moment.rank c.args.parts.now.checked (history_of g.T.Moment.rank c.args.parts.now.store.events) soon (view_of c.release_slot.new.parts) tally) (sym c.in-Err-release_slot.ensures.err_tally)
          (subst (λ (p : Parts _ _ _ _). StandForBoth g.T.Moment.rank c.args.parts.now.checked (history_of g.T.Moment.rank c.args.parts.now.store.events) soon (view_of p) c.args.tally.now) (sym same) walked.both))
          (λ id p is. c.release_slot.ensures.terms id ∙ is) (λ id p is. inl (sym (c.release_slot.ensures.terms id) ∙ is)) c.make_room.ensures.same refl (λ id is. is) c.release_slot.ensures.more,
    )

pub returns-clause-goes : goal.returns-clause-goes
returns-clause-goes g c soon walked =
    let id = c.args.id.now in
    let stored = stored_under walked id c.args.slot c.len-2.ensures.slots c.requires.untouched c.requires.slot in
    let some : 1 ≤ c.args.walk.now.events = some_events walked id stored.event stored.found in
    let P : EventEntries _ → Type 0 = λ kept. TakeEventOut g.T.Moment.rank c.args.parts.now.checked kept.list (view_of c.args.parts.now) c.args.tally.now (view_of c.release_slot.new.parts) c.release_slot.new.tally in
    let Q : EventEntries _ → Type 0 = λ kept. c.release_slot.new.noted.items ≡ c.args.walk.now.dying.items ++ list_props kept.list in
    let out : P stored.kept = subst (λ o. IfSome o P) stored.kept_is c.in_default-release_slot.ensures.both in
    let noted : Q stored.kept = subst (λ o. IfSome o Q) stored.kept_is c.in_default-release_slot.ensures.noted in
    goes_on _ _ _ (retracted_present soon id (has_id-found id soon ∙ ap is_some stored.found))
    (goes_out_by walked id stored.event stored.kept.list _ _ _
    (ap (λ (p : Parts _ _ _ _). p.store) c.release_slot.ensures.rest) stored.found stored.shown (record { in_order = c.len.ensures.order; numbers = c.len.ensures.numbers })
    (out (history_of g.T.Moment.rank c.args.parts.now.store.events) soon stored.event stored.shown walked.history (found-has_event id stored.event soon stored.found) walked.both)
    c.release_slot.ensures.terms
    (λ other. put_as c.copied.result id other _ _ _ _ _ (c.put.ensures.nets other) c.copied.ensures.same
    (ap (λ o. net_of o None) (sym c.requires.slot)) (c.make_room.ensures.same other))
    (sub-add_cancel some) refl noted)

pub returns-clause-theory : goal.returns-clause-theory
returns-clause-theory g c = ap (λ (p : Parts _ _ _ _). p.checked) c.release_slot.ensures.rest

pub returns-in-Err-release_slot-clause-theory : goal.returns-in-Err-release_slot-clause-theory
returns-in-Err-release_slot-clause-theory g c = ap (λ (p : Parts _ _ _ _). p.checked) c.in-Err-release_slot.ensures.err

pub returns-clause-store : goal.returns-clause-store
returns-clause-store g c = ap (λ (p : Parts _ _ _ _). p.store) c.release_slot.ensures.rest

pub returns-in-Err-release_slot-clause-store : goal.returns-in-Err-release_slot-clause-store
returns-in-Err-release_slot-clause-store g c = ap (λ (p : Parts _ _ _ _). p.store) c.in-Err-release_slot.ensures.err
