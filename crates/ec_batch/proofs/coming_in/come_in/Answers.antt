-- The event is entered, and its entries are mentioned, within the limits or not.
use Rattle.std.proofs.Common.{◌≡◌, ◌≤◌, ℤ, List, Some, length, sym, ap, subst, ◌∙◌}
use Rattle.std.specs.Prelude.{Ok, Err}
use Rattle.ec_terms.specs.declared.theory.Theory.{Theory}
use Rattle.ec_terms.specs.Domain.{entries_of}
use Rattle.ec_axioms.specs.Calculus.{PlainEvent}
use Rattle.ec_axioms.specs.Changes.{with_event}
use Rattle.ec_axioms.specs.Events.{event_of}
use Rattle.ec_axioms.specs.Links.{mentions_of, most_mentions}
use Rattle.ec_context.specs.declared.entry.Entry.{Entry}
use Rattle.ec_context.specs.Entries.{shown_entries}
use Rattle.ec_parts.specs.Adoption.{KeepStanding}
use Rattle.ec_parts.specs.declared.parts.Parts.{Parts}
use Rattle.ec_parts.specs.declared.tally.Tally.{Tally}
use Rattle.ec_parts.specs.StandFor.{StandForBoth, View, view_of}
use Rattle.ec_replies.specs.Updates.{with_few_mentions}
use Rattle.ec_batch.specs.ComingIn.{IsAhead}
use Rattle.ec_batch.specs.Limited.{ComesIn}
use Rattle.ec_batch.proofs.coming_in.come_in.Goals as goal

pub enter-requires : goal.enter-requires
enter-requires g c =
    let some = c.requires.ahead in
    record { stand = record { now = some.now; soon = some.soon; tally = c.args.tally.now; few = some.ahead.few_now; stand = some.ahead.both } }

-- the entries are those that the event brings to the tables as they are then
comes_in : {T : Type 0} {rank : T → ℤ} {theory later : Theory} {entries : List Entry} {event : PlainEvent} {before after : View T} {tally : Tally} {now soon : List PlainEvent} → later ≡ theory
    → KeepStanding rank theory before after → shown_entries after.table entries ≡ Some (entries_of theory event.term) → IsAhead rank theory event before tally now soon
    → ComesIn rank later entries after tally now soon event
comes_in {T} {rank} {theory} {later} {entries} {event} {before} {after} {tally} {now} {soon} same stands shown ahead = record {
  both = subst (λ t. StandForBoth rank t now soon after tally) (sym same) (stands now soon tally ahead.few_now ahead.both);
  history = ahead.history;
  few = subst (λ t. length (mentions_of t soon) ≤ most_mentions) (sym same) ahead.few;
  absent = ahead.absent;
  shown = shown ∙ ap (λ t. Some (entries_of t event.term)) (sym same);
}

pub take_in-requires : goal.take_in-requires
take_in-requires g c =
    let some = c.requires.ahead in
    record { coming = record { now = some.now; soon = some.soon; event = event_of g.T.Moment.rank c.args.event.now; comes = comes_in c.enter.ensures.theory c.enter.ensures.both c.in-Ok.ensures.entries some.ahead } }

pub returns-in-Ok-take_in-clause-come : goal.returns-in-Ok-take_in-clause-come
returns-in-Ok-take_in-clause-come g c = λ now soon ahead.
    let e = event_of g.T.Moment.rank c.args.event.now in
    let taken = c.in-Ok-take_in.ensures.limits now soon e (comes_in c.enter.ensures.theory c.enter.ensures.both c.in-Ok.ensures.entries ahead) in (
      subst (λ t. with_few_mentions t (with_event e soon) ≡ Ok (with_event e soon)) c.enter.ensures.theory taken.0,
      subst (λ t. StandForBoth g.T.Moment.rank t now (with_event e soon) (view_of c.take_in.new.parts) c.take_in.new.tally) c.enter.ensures.theory taken.1,
    )

pub returns-clause-come : goal.returns-clause-come
returns-clause-come g c = λ now soon ahead.
    let e = event_of g.T.Moment.rank c.args.event.now in
    let refused = c.in-Err-take_in.ensures.limits now soon e (comes_in c.enter.ensures.theory c.enter.ensures.both c.in-Ok.ensures.entries ahead) in
    subst (λ t. with_few_mentions t (with_event e soon) ≡ Err c.in-Err-take_in.cut) c.enter.ensures.theory refused.0

pub returns-in-Err-clause-come : goal.returns-in-Err-clause-come
returns-in-Err-clause-come g c = λ now soon ahead. tt

pub returns-in-Ok-take_in-clause-theory : goal.returns-in-Ok-take_in-clause-theory
returns-in-Ok-take_in-clause-theory g c = ap (λ (p : Parts _ _ _ _). p.checked) c.take_in.ensures.rest ∙ c.enter.ensures.theory

pub returns-in-Ok-take_in-clause-store : goal.returns-in-Ok-take_in-clause-store
returns-in-Ok-take_in-clause-store g c = ap (λ (p : Parts _ _ _ _). p.store) c.take_in.ensures.rest ∙ c.enter.ensures.events

pub returns-clause-theory : goal.returns-clause-theory
returns-clause-theory g c = ap (λ (p : Parts _ _ _ _). p.checked) c.take_in.ensures.rest ∙ c.enter.ensures.theory

pub returns-clause-store : goal.returns-clause-store
returns-clause-store g c = ap (λ (p : Parts _ _ _ _). p.store) c.take_in.ensures.rest ∙ c.enter.ensures.events
