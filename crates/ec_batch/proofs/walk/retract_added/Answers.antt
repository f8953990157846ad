-- The event that is put in goes out, with its mentions.
use Rattle.std.proofs.Common.{◌≡◌, ◌≤◌, Some, None, refl, sym, ap, ◌∙◌, inl, sub-add_cancel}
use Rattle.std.proofs.Common.{is_some}
use Rattle.ec_batch.specs.Net.{net_in}
use Rattle.ec_axioms.specs.Events.{event_of}
use Rattle.ec_context.proofs.Shown.{IsKeptEntry-shown}
use Rattle.ec_store.specs.Store.{history_of}
use Rattle.ec_parts.specs.declared.parts.Parts.{Parts}
use Rattle.ec_batch.proofs.Batches.{goes_on}
use Rattle.ec_changes.proofs.FoundEvents.{found-has_event, has_id-found}
use Rattle.ec_batch.proofs.WalkSteps.{stays, goes_out_by, added_found, added_shown, present, AreOfEventsWith-found, some_events, put_as, net_of, refused_absent, retracted_present, may_want-retracted}
use Rattle.ec_batch.proofs.walk.retract_added.Goals as goal

pub returns-in-Err-clause-goes : goal.returns-in-Err-clause-goes
returns-in-Err-clause-goes g c soon walked = (
  may_want-retracted soon c.args.id.now (sym (present walked c.args.id.now) ∙ sym c.is_present.ensures ∙ c.if-not-is_present.false),
  stays walked _ _ _ refl walked.both (λ id p is. is) (λ id p is. inl is) c.make_room.ensures.same refl (λ id is. is) (λ id is. is),
)

pub returns-in-Err-note_props-clause-goes : goal.returns-in-Err-note_props-clause-goes
returns-in-Err-note_props-clause-goes g c soon walked = (
  may_want-retracted soon c.args.id.now (sym (present walked c.args.id.now) ∙ sym c.is_present.ensures ∙ c.if-not-is_present.false),
  stays walked _ _ _ refl walked.both (λ id p is. is) (λ id p is. inl is) c.make_room.ensures.same refl (λ id is. is) c.note_props.ensures.more,
)

pub release_all-requires-clause-kept : goal.release_all-requires-clause-kept
release_all-requires-clause-kept g c =
    let net_is : net_in c.args.id.now c.args.walk.now.nets ≡ Some c.in-Some.net.now = sym (c.make_room.ensures.same c.args.id.now) ∙ sym c.in-Some.ensures.value in
    IsKeptEntry-shown c.args.parts.now.props c.in-Some-new.added.entries _ (added_shown c.requires.walked.to c.args.id.now c.in-Some.net.now c.in-Some-new.added net_is c.in-Some-new.is)

pub release_all-requires-clause-tables : goal.release_all-requires-clause-tables
release_all-requires-clause-tables g c =
    let net_is : net_in c.args.id.now c.args.walk.now.nets ≡ Some c.in-Some.net.now = sym (c.make_room.ensures.same c.args.id.now) ∙ sym c.in-Some.ensures.value in
    AreOfEventsWith-found c.requires.walked.to c.args.id.now (event_of g.T.Moment.rank c.in-Some-new.added.event) c.in-Some-new.added.entries
    (added_found c.requires.walked.to c.args.id.now c.in-Some.net.now c.in-Some-new.added net_is c.in-Some-new.is)
    (added_shown c.requires.walked.to c.args.id.now c.in-Some.net.now c.in-Some-new.added net_is c.in-Some-new.is)

pub overflow_sub-walk : goal.overflow_sub-walk
overflow_sub-walk g c =
    let net_is : net_in c.args.id.now c.args.walk.now.nets ≡ Some c.in-Some.net.now = sym (c.make_room.ensures.same c.args.id.now) ∙ sym c.in-Some.ensures.value in
    some_events c.requires.walked.to c.args.id.now (event_of g.T.Moment.rank c.in-Some-new.added.event)
    (added_found c.requires.walked.to c.args.id.now c.in-Some.net.now c.in-Some-new.added net_is c.in-Some-new.is)

pub returns-then-not-is_present-clause-goes : goal.returns-then-not-is_present-clause-goes
returns-then-not-is_present-clause-goes g c soon walked =
    (refused_absent soon c.copied.result c.args.id.now c.copied.ensures.same (sym (present walked c.args.id.now) ∙ sym c.is_present.ensures ∙ c.if-not-is_present.true), walked)

pub returns-clause-goes : goal.returns-clause-goes
returns-clause-goes g c soon walked =
    let id = c.args.id.now in
    let net_is : net_in id c.args.walk.now.nets ≡ Some c.in-Some.net.now = sym (c.make_room.ensures.same id) ∙ sym c.in-Some.ensures.value in
    let found = added_found walked id c.in-Some.net.now c.in-Some-new.added net_is c.in-Some-new.is in
    let shown = added_shown walked id c.in-Some.net.now c.in-Some-new.added net_is c.in-Some-new.is in
    let some : 1 ≤ c.args.walk.now.events = some_events walked id (event_of g.T.Moment.rank c.in-Some-new.added.event) found in
    goes_on _ _ _ (retracted_present soon id (has_id-found id soon ∙ ap is_some found))
    (goes_out_by walked id (event_of g.T.Moment.rank c.in-Some-new.added.event) c.in-Some-new.added.entries _ _ _
    (ap (λ (p : Parts _ _ _ _). p.store) c.release_all.ensures.rest) found shown (record { in_order = c.len.ensures.order; numbers = c.len.ensures.numbers })
    (c.release_all.ensures.both (history_of g.T.Moment.rank c.args.parts.now.store.events) soon (event_of g.T.Moment.rank c.in-Some-new.added.event) shown walked.history
    (found-has_event id (event_of g.T.Moment.rank c.in-Some-new.added.event) soon found) walked.both)
    c.release_all.ensures.released.terms
    (λ other. put_as c.copied-2.result id other _ _ _ _ _ (c.put.ensures.nets other) c.copied-2.ensures.same
    (ap (λ o. net_of o None) ((walked.nets.touched id c.in-Some.net.now net_is).old)) (c.make_room.ensures.same other))
    (sub-add_cancel some) refl c.in_default-note_props.ensures.ok)

pub returns-clause-theory : goal.returns-clause-theory
returns-clause-theory g c = ap (λ (p : Parts _ _ _ _). p.checked) c.release_all.ensures.rest

pub returns-clause-store : goal.returns-clause-store
returns-clause-store g c = ap (λ (p : Parts _ _ _ _). p.store) c.release_all.ensures.rest
