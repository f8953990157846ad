-- The event that stands there goes; where none does, nothing goes.
use Rattle.std.proofs.Common.{◌≡◌, Some, IfSome, sym, ap, subst, ◌∙◌}
use Rattle.ec_terms.specs.Domain.{entries_of}
use Rattle.ec_axioms.specs.Changes.{without_event}
use Rattle.ec_axioms.specs.Events.{event_of}
use Rattle.ec_context.proofs.Shown.{IsKeptEntry-shown}
use Rattle.ec_context.specs.Entries.{shown_entries}
use Rattle.ec_parts.specs.StandFor.{StandForBoth, view_of}
use Rattle.ec_batch.specs.declared.net.Added.{Added}
use Rattle.ec_batch.specs.Walk.{added_event}
use Rattle.ec_changes.specs.Found.{event_with}
use Rattle.ec_changes.proofs.FoundEvents.{found-has_event, found-id}
use Rattle.ec_batch.proofs.Undoing.{without_event-not_found}
use Rattle.ec_batch.proofs.walk_back.release_new.Goals as goal

pub release_all-requires-clause-kept : goal.release_all-requires-clause-kept
release_all-requires-clause-kept g c =
    let P : Added _ → Type 0 = λ a. shown_entries c.args.parts.now.props a.entries ≡ Some (entries_of c.args.parts.now.checked a.event.term) in
    let shown : P c.in-Some.added = subst (λ o. IfSome o P) c.in-Some.is c.requires.releasable.entries in
    IsKeptEntry-shown c.args.parts.now.props c.in-Some.added.entries _ shown

pub release_all-requires-clause-tables : goal.release_all-requires-clause-tables
release_all-requires-clause-tables g c =
    let P : Added _ → Type 0 = λ a. shown_entries c.args.parts.now.props a.entries ≡ Some (entries_of c.args.parts.now.checked a.event.term) in
    let r = c.requires.releasable in
    let shown : P c.in-Some.added = subst (λ o. IfSome o P) c.in-Some.is r.entries in
    let e = event_of g.T.Moment.rank c.in-Some.added.event in
    let found : event_with c.requires.id c.requires.soon ≡ Some e = sym r.new ∙ ap (added_event g.T.Moment.rank) c.in-Some.is in
    record { events = c.requires.soon; event = e; history = r.history; there = found-has_event c.requires.id e c.requires.soon found; shown = shown; tables = r.both.tables }

pub returns-in-None-clause-out : goal.returns-in-None-clause-out
returns-in-None-clause-out g c now soon id r =
    subst (λ events. StandForBoth g.T.Moment.rank c.args.parts.now.checked now events (view_of c.args.parts.now) c.args.tally.now)
    (sym (without_event-not_found id soon (sym r.new ∙ ap (added_event g.T.Moment.rank) c.in-None.is))) r.both

pub returns-in-Some-clause-out : goal.returns-in-Some-clause-out
returns-in-Some-clause-out g c now soon id r =
    let P : Added _ → Type 0 = λ a. shown_entries c.args.parts.now.props a.entries ≡ Some (entries_of c.args.parts.now.checked a.event.term) in
    let shown : P c.in-Some.added = subst (λ o. IfSome o P) c.in-Some.is r.entries in
    let e = event_of g.T.Moment.rank c.in-Some.added.event in
    let found : event_with id soon ≡ Some e = sym r.new ∙ ap (added_event g.T.Moment.rank) c.in-Some.is in
    subst (λ i. StandForBoth g.T.Moment.rank c.args.parts.now.checked now (without_event i soon) (view_of c.release_all.new.parts) c.release_all.new.tally)
    (found-id id e soon found) (c.release_all.ensures.both now soon e shown r.history (found-has_event id e soon found) r.both)
