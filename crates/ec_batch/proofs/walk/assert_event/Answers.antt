-- The event is refused in the order of the tests, or comes in with its mentions.
use Rattle.std.proofs.Common.{◌≡◌, ◌+◌, ◌≤◌, ◌<◌, Some, length, false, refl, sym, ap, ap₂, subst, ◌∙◌, inl, add-one-le}
use Rattle.std.specs.Prelude.{Ok, Err}
use Rattle.ec_terms.specs.Domain.{entries_of}
use Rattle.ec_axioms.specs.declared.event.Event.{Event}
use Rattle.ec_axioms.specs.Changes.{has_id, with_event}
use Rattle.ec_axioms.specs.Events.{event_of}
use Rattle.ec_axioms.specs.Links.{most_events, most_mentions, mentions_of}
use Rattle.ec_context.specs.Entries.{shown_entries}
use Rattle.ec_store.specs.Store.{history_of, slot_of}
use Rattle.ec_numbered.specs.PropSet.{has_number}
use Rattle.ec_parts.specs.declared.parts.Parts.{Parts}
use Rattle.ec_parts.specs.StandFor.{StandForBoth, view_of}
use Rattle.ec_batch.specs.Limited.{ComesIn}
use Rattle.ec_batch.specs.Net.{old_slot_by}
use Rattle.ec_replies.specs.Updates.{with_few_mentions}
use Rattle.ec_batch.proofs.Batches.{goes_on}
use Rattle.ec_batch.proofs.LetIn.{shown_after}
use Rattle.ec_batch.proofs.WalkSteps.{present, old_slots, stays, comes_in, keeps_terms, new_terms, put_as, net_of, refused_present, refused_full, asked_limits, may_want-asserted}
use Rattle.ec_batch.proofs.walk.assert_event.Goals as goal

pub returns-then-is_present-clause-goes : goal.returns-then-is_present-clause-goes
returns-then-is_present-clause-goes g c soon walked = (
  refused_present c.args.parts.now.checked soon (event_of g.T.Moment.rank c.args.event.now) c.copied.result c.copied.ensures.same
      (sym (present walked c.args.event.now.id) ∙ sym c.is_present.ensures ∙ c.if-is_present.true),
  walked,
)

pub returns-then-walk-ge-MOST_EVENTS-clause-goes : goal.returns-then-walk-ge-MOST_EVENTS-clause-goes
returns-then-walk-ge-MOST_EVENTS-clause-goes g c soon walked =
    let full : most_events ≤ length soon = subst (λ n. most_events ≤ n) walked.count c.if-walk-ge-MOST_EVENTS.true in (
      refused_full c.args.parts.now.checked soon (event_of g.T.Moment.rank c.args.event.now)
          (sym (present walked c.args.event.now.id) ∙ sym c.is_present.ensures ∙ c.if-is_present.false) full,
      walked,
    )

pub returns-in-Err-clause-goes : goal.returns-in-Err-clause-goes
returns-in-Err-clause-goes g c soon walked =
    let room : length soon + 1 ≤ most_events = add-one-le (subst (λ n. n < most_events) walked.count c.if-walk-ge-MOST_EVENTS.false) in
    let absent : has_id c.args.event.now.id soon ≡ false = sym (present walked c.args.event.now.id) ∙ sym c.is_present.ensures ∙ c.if-is_present.false in (
      may_want-asserted c.args.parts.now.checked soon (event_of g.T.Moment.rank c.args.event.now) absent room,
      stays walked _ _ _ refl walked.both (λ id p is. is) (λ id p is. inl is) c.make_room.ensures.same refl (λ id is. is) (λ id is. is),
    )

pub returns-in-Err-copy_of-clause-goes : goal.returns-in-Err-copy_of-clause-goes
returns-in-Err-copy_of-clause-goes g c soon walked =
    let room : length soon + 1 ≤ most_events = add-one-le (subst (λ n. n < most_events) walked.count c.if-walk-ge-MOST_EVENTS.false) in
    let absent : has_id c.args.event.now.id soon ≡ false = sym (present walked c.args.event.now.id) ∙ sym c.is_present.ensures ∙ c.if-is_present.false in (
      may_want-asserted c.args.parts.now.checked soon (event_of g.T.Moment.rank c.args.event.now) absent room,
      stays walked _ _ _ refl walked.both (λ id p is. is) (λ id p is. inl is) c.make_room.ensures.same refl (λ id is. is) (λ id is. is),
    )

pub returns-in-Err-enter-clause-goes : goal.returns-in-Err-enter-clause-goes
returns-in-Err-enter-clause-goes g c soon walked =
    let hist = history_of g.T.Moment.rank c.args.parts.now.store.events in
    let room : length soon + 1 ≤ most_events = add-one-le (subst (λ n. n < most_events) walked.count c.if-walk-ge-MOST_EVENTS.false) in
    let absent : has_id c.args.event.now.id soon ≡ false = sym (present walked c.args.event.now.id) ∙ sym c.is_present.ensures ∙ c.if-is_present.false in (
      may_want-asserted c.args.parts.now.checked soon (event_of g.T.Moment.rank c.args.event.now) absent room,
      stays walked _ _ _ c.enter.ensures.events
          (c.enter.ensures.both hist soon c.args.tally.now walked.few_now walked.both)
          (keeps_terms c.args.parts.now.props c.enter.new.parts.props c.enter.ensures.before)
          (new_terms c.args.parts.now.props c.enter.new.parts.props (λ id. has_number id c.enter.new.fresh.items) c.enter.ensures.before c.enter.ensures.fresh)
          c.make_room.ensures.same refl c.enter.ensures.more (λ id is. is),
    )

pub take_in-requires : goal.take_in-requires
take_in-requires g c =
    let to = c.requires.walked.to in
    let soon = c.requires.walked.soon in
    let hist = history_of g.T.Moment.rank c.args.parts.now.store.events in
    record {
      coming = record {
        now = hist;
        soon = soon;
        event = event_of g.T.Moment.rank c.args.event.now;
        comes = record {
          both = subst (λ t. StandForBoth g.T.Moment.rank t hist soon (view_of c.enter.new.parts) c.args.tally.now) (sym c.enter.ensures.theory)
              (c.enter.ensures.both hist soon c.args.tally.now to.few_now to.both);
          history = to.history;
          few = subst (λ theory. length (mentions_of theory soon) ≤ most_mentions) (sym c.enter.ensures.theory) to.within.few_mentions;
          absent = sym (present to c.args.event.now.id) ∙ sym c.is_present.ensures ∙ c.if-is_present.false;
          shown = c.in-Ok-enter.ensures.entries ∙ ap (λ theory. Some (entries_of theory c.args.event.now.term)) (sym c.enter.ensures.theory);
        };
      };
    }

pub returns-in-Err-take_in-clause-goes : goal.returns-in-Err-take_in-clause-goes
returns-in-Err-take_in-clause-goes g c soon walked =
    let hist = history_of g.T.Moment.rank c.args.parts.now.store.events in
    let e = event_of g.T.Moment.rank c.args.event.now in
    let absent : has_id c.args.event.now.id soon ≡ false = sym (present walked c.args.event.now.id) ∙ sym c.is_present.ensures ∙ c.if-is_present.false in
    let comes : ComesIn g.T.Moment.rank c.enter.new.parts.checked c.in-Ok-enter.entries (view_of c.enter.new.parts) c.args.tally.now hist soon e = record {
      both = subst (λ t. StandForBoth g.T.Moment.rank t hist soon (view_of c.enter.new.parts) c.args.tally.now) (sym c.enter.ensures.theory) (c.enter.ensures.both hist soon c.args.tally.now walked.few_now walked.both);
      history = walked.history;
      few = subst (λ theory. length (mentions_of theory soon) ≤ most_mentions) (sym c.enter.ensures.theory) walked.within.few_mentions;
      absent = absent;
      shown = c.in-Ok-enter.ensures.entries ∙ ap (λ theory. Some (entries_of theory c.args.event.now.term)) (sym c.enter.ensures.theory);
    } in
    let refused = c.in-Err-take_in.ensures.limits hist soon e comes in
    let room : length soon + 1 ≤ most_events = add-one-le (subst (λ n. n < most_events) walked.count c.if-walk-ge-MOST_EVENTS.false) in (
      asked_limits c.args.parts.now.checked soon e absent room
          ∙ subst (λ theory. with_few_mentions theory (with_event e soon) ≡ Err c.in-Err-take_in.cut) c.enter.ensures.theory refused.0,
      stays walked _ _ _ (ap (λ (p : Parts _ _ _ _). p.store) c.take_in.ensures.rest ∙ c.enter.ensures.events)
          (subst (λ theory. StandForBoth g.T.Moment.rank theory hist soon (view_of c.take_in.new.parts) c.take_in.new.tally) c.enter.ensures.theory refused.1)
          (λ id p is. c.take_in.ensures.terms id ∙ keeps_terms c.args.parts.now.props c.enter.new.parts.props c.enter.ensures.before id p is)
          (λ id p is. new_terms c.args.parts.now.props c.enter.new.parts.props (λ id. has_number id c.enter.new.fresh.items) c.enter.ensures.before c.enter.ensures.fresh id p (sym (c.take_in.ensures.terms id) ∙ is))
          c.make_room.ensures.same refl c.enter.ensures.more (λ id is. is),
    )

pub returns-clause-goes : goal.returns-clause-goes
returns-clause-goes g c soon walked =
    let rank = g.T.Moment.rank in
    let theory = c.args.parts.now.checked in
    let events = c.args.parts.now.store.events in
    let hist = history_of rank events in
    let e = event_of rank c.args.event.now in
    let copy = c.in-Ok.copy in
    let entries = c.in-Ok-enter.entries in
    let same : copy ≡ c.args.event.now = c.in-Ok.ensures in
    let absent : has_id c.args.event.now.id soon ≡ false = sym (present walked c.args.event.now.id) ∙ sym c.is_present.ensures ∙ c.if-is_present.false in
    let comes : ComesIn rank c.enter.new.parts.checked entries (view_of c.enter.new.parts) c.args.tally.now hist soon e = record {
      both = subst (λ t. StandForBoth g.T.Moment.rank t hist soon (view_of c.enter.new.parts) c.args.tally.now) (sym c.enter.ensures.theory) (c.enter.ensures.both hist soon c.args.tally.now walked.few_now walked.both);
      history = walked.history;
      few = subst (λ t. length (mentions_of t soon) ≤ most_mentions) (sym c.enter.ensures.theory) walked.within.few_mentions;
      absent = absent;
      shown = c.in-Ok-enter.ensures.entries ∙ ap (λ t. Some (entries_of t c.args.event.now.term)) (sym c.enter.ensures.theory);
    } in
    let let_in = c.in_default-take_in.ensures.limits hist soon e comes in
    let few = subst (λ t. with_few_mentions t (with_event e soon) ≡ Ok (with_event e soon)) c.enter.ensures.theory let_in.0 in
    let stand = subst (λ t. StandForBoth rank t hist (with_event e soon) (view_of c.take_in.new.parts) c.take_in.new.tally) c.enter.ensures.theory let_in.1 in
    let shown = shown_after comes c.take_in.new.parts.props c.take_in.ensures.terms ∙ ap (λ t. Some (entries_of t c.args.event.now.term)) c.enter.ensures.theory in
    let store = ap (λ (p : Parts _ _ _ _). p.store) c.take_in.ensures.rest ∙ c.enter.ensures.events in
    let room : length soon + 1 ≤ most_events = add-one-le (subst (λ n. n < most_events) walked.count c.if-walk-ge-MOST_EVENTS.false) in
    let free : c.args.walk.now.events + 1 ≤ most_events = add-one-le c.if-walk-ge-MOST_EVENTS.false in
    goes_on _ _ _ (asked_limits theory soon e absent room ∙ few ∙ ap (λ (x : Event _). Ok (with_event (event_of rank x) soon)) (sym same))
    (comes_in walked (record { event = copy; entries = entries }) _ _ _ store
    (ap (λ (x : Event _). has_id x.id soon) same ∙ absent) free
    (subst (λ (x : Event _). with_few_mentions theory (with_event (event_of rank x) soon) ≡ Ok (with_event (event_of rank x) soon)) (sym same) few)
    (subst (λ (x : Event _). shown_entries c.take_in.new.parts.props entries ≡ Some (entries_of theory x.term)) (sym same) shown)
    (subst (λ (x : Event _). StandForBoth rank theory hist (with_event (event_of rank x) soon) (view_of c.take_in.new.parts) c.take_in.new.tally) (sym same) stand)
    (λ id p is. c.take_in.ensures.terms id ∙ keeps_terms c.args.parts.now.props c.enter.new.parts.props c.enter.ensures.before id p is)
    (λ id p is. new_terms c.args.parts.now.props c.enter.new.parts.props (λ id. has_number id c.enter.new.fresh.items) c.enter.ensures.before c.enter.ensures.fresh id p (sym (c.take_in.ensures.terms id) ∙ is))
    (λ other. put_as c.copied-2.result copy.id other _ _ _ _ _ (c.put.ensures.nets other) (c.copied-2.ensures.same ∙ ap (λ (x : Event _). x.id) (sym same))
    (ap (λ o. net_of o (Some (record { event = copy; entries = entries })))
    (c.old_slot-old.ensures ∙ ap₂ old_slot_by (c.make_room.ensures.same c.args.event.now.id) (ap (λ s. slot_of c.args.event.now.id s.events) store)
    ∙ old_slots walked c.args.event.now.id ∙ ap (λ (x : Event _). slot_of x.id events) (sym same)))
    (c.make_room.ensures.same other))
    refl c.enter.ensures.more (λ id is. is))

pub returns-in-Err-take_in-clause-theory : goal.returns-in-Err-take_in-clause-theory
returns-in-Err-take_in-clause-theory g c = ap (λ (p : Parts _ _ _ _). p.checked) c.take_in.ensures.rest ∙ c.enter.ensures.theory

pub returns-in-Err-take_in-clause-store : goal.returns-in-Err-take_in-clause-store
returns-in-Err-take_in-clause-store g c = ap (λ (p : Parts _ _ _ _). p.store) c.take_in.ensures.rest ∙ c.enter.ensures.events

pub returns-clause-theory : goal.returns-clause-theory
returns-clause-theory g c = ap (λ (p : Parts _ _ _ _). p.checked) c.take_in.ensures.rest ∙ c.enter.ensures.theory

pub returns-clause-store : goal.returns-clause-store
returns-clause-store g c = ap (λ (p : Parts _ _ _ _). p.store) c.take_in.ensures.rest ∙ c.enter.ensures.events

pub put-requires : goal.put-requires
put-requires g c = c.in_default.ensures.room
