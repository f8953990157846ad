-- What was said of parts holds of parts that differ from them in their room alone; and what is planned is ready, once there is room.
use Rattle.std.proofs.Common.{◌≡◌, ◌≤◌, ℤ, List, Option, sym, ap, subst, ◌∙◌}
use Rattle.std.specs.Prelude.{IsSome}
use Rattle.std.specs.List.{All}
use Rattle.ec_terms.specs.declared.theory.Theory.{Theory}
use Rattle.ec_axioms.specs.Calculus.{PlainEvent, is_current}
use Rattle.ec_axioms.specs.Changes.{change_counts}
use Rattle.ec_axioms.specs.Events.{event_of}
use Rattle.ec_store.specs.Table.{KeptProp, prop_at, prop_of, term_at}
use Rattle.ec_rows.specs.PlainMarks.{plain_marks}
use Rattle.ec_store.specs.Store.{Kept, event_at, history_of}
use Rattle.ec_numbered.specs.ByNumber.{kept_at}
use Rattle.ec_numbered.specs.PropSet.{has_number}
use Rattle.ec_entries.specs.declared.event_entries.EventEntries.{EventEntries}
use Rattle.ec_points.specs.Changes.{growth_of}
use Rattle.ec_intervals.specs.Table.{plain_intervals}
use Rattle.ec_exclusive.specs.Neighbours.{Neighbourhoods}
use Rattle.ec_parts.specs.declared.tally.Tally.{Tally}
use Rattle.ec_parts.specs.Activity.{AreActiveBits}
use Rattle.ec_parts.specs.Caches.{AreInitialsOf, IsEnteredIn}
use Rattle.ec_parts.specs.StandFor.{AreCaches, AreTables, StandForBoth, View}
use Rattle.ec_parts.specs.Tables.{AreAllAdded, AreKept}
use Rattle.ec_revise.specs.declared.change.Change.{Change}
use Rattle.ec_revise.specs.Change.{IsChange}
use Rattle.ec_delta.specs.declared.delta.Delta.{Delta}
use Rattle.ec_delta.specs.declared.delta.Looked.{Looked}
use Rattle.ec_delta.specs.declared.delta.Planned.{Planned}
use Rattle.ec_delta.specs.declared.flips.Flip.{Flip}
use Rattle.ec_delta.specs.Looked.{active_found}
use Rattle.ec_delta.specs.Ready.{AreBitsOf, AreMarksPlanned, AreWindows, HasRoomForEvents, HasRoomForIntervals, HasRoomForMarks, IsReady, KeepsWhatIsUnmoved}
use Rattle.ec_sweep.specs.Planned.{DifferInRoom, IsPlanned}

module _ {T : Type 0} (rank : T → ℤ) (theory : Theory) (before after : View T) (differ : DifferInRoom before after) where
  -- a statement on the table, or on the events, holds after as before
  by_table : (P : List KeptProp → Type 0) → P before.table → P after.table
  by_table P holds = subst P (sym differ.table) holds

  by_events : (P : List (Kept T) → Type 0) → P before.store.events → P after.store.events
  by_events P holds = subst P (sym differ.events) holds

  initials-same : AreInitialsOf theory before.table before.points → AreInitialsOf theory after.table after.points
  initials-same are = record {
    initial = λ id p is. ap (has_number id) differ.initials ∙ are.initial id p (ap (term_at id) (sym differ.table) ∙ is);
    none = λ id is. ap (has_number id) differ.initials ∙ are.none id (ap (prop_at id) (sym differ.table) ∙ is);
  }

  tables-same : (soon : List PlainEvent) (tally : Tally) → AreTables theory soon before.table before.neighbours before.points tally
      → AreTables theory soon after.table after.neighbours after.points tally
  tables-same soon tally are = record {
    kept = by_table (λ table. AreKept theory soon table) are.kept;
    added = subst (λ (around : Neighbourhoods). AreAllAdded theory after.table around) (sym differ.neighbours) (by_table (λ table. AreAllAdded theory table before.neighbours) are.added);
    initials = initials-same are.initials;
    tally_of = are.tally_of;
  }

  caches-same : (now : List PlainEvent) → AreCaches rank theory now before → AreCaches rank theory now after
  caches-same now are = record {
    history = are.history;
    events_of = ap (history_of rank) differ.events ∙ are.events_of;
    entries_of = λ slot.
        by_table (λ table. IsEnteredIn rank theory now table (event_at slot after.store.events) (kept_at slot.0 after.entries.slots))
        (subst (λ (kept : Option (EventEntries T)). IsEnteredIn rank theory now before.table (event_at slot after.store.events) kept) (sym (differ.slots slot.0))
        (by_events (λ events. IsEnteredIn rank theory now before.table (event_at slot events) (kept_at slot.0 before.entries.slots)) (are.entries_of slot)));
    marks_of = record {
      marks = λ id p is. ap (plain_marks rank) (differ.marks id) ∙ are.marks_of.marks id p (ap (term_at id) (sym differ.table) ∙ is);
      none = λ id is. differ.marks id ∙ are.marks_of.none id (ap (prop_at id) (sym differ.table) ∙ is);
      initials = initials-same are.marks_of.initials;
    };
    initiations_of = record {
      marks = λ id p is. ap (plain_marks rank) (differ.initiations id) ∙ are.initiations_of.marks id p (ap (term_at id) (sym differ.table) ∙ is);
      none = λ id is. differ.initiations id ∙ are.initiations_of.none id (ap (prop_at id) (sym differ.table) ∙ is);
    };
    intervals_of = record {
      members = λ id p is. ap (plain_intervals rank) (differ.intervals id) ∙ are.intervals_of.members id p (ap (term_at id) (sym differ.table) ∙ is);
      none = λ id is. differ.intervals id ∙ are.intervals_of.none id (ap (prop_at id) (sym differ.table) ∙ is);
    };
  }

  -- the parts stand for the same lists
  pub StandForBoth-same : (now soon : List PlainEvent) (tally : Tally) → StandForBoth rank theory now soon before tally → StandForBoth rank theory now soon after tally
  StandForBoth-same now soon tally both = record {
    tables = tables-same soon tally both.tables;
    caches = caches-same now both.caches;
    live = λ p is. by_table (λ table. IsSome (prop_of p table)) (both.live p is);
  }

  windows-same : (planned : Planned T) → AreWindows rank before planned → AreWindows rank after planned
  windows-same planned are = record {
    windows = are.windows;
    in_order = are.in_order;
    kept = λ id touched is. by_table (λ table. IsSome (prop_at id table)) (are.kept id touched is);
    counted = are.counted;
    grown = λ id touched is. subst (λ marks. growth_of rank id planned.marks marks ≤ touched.grows) (sym (differ.marks id)) (are.grown id touched is);
    started = λ id touched is. subst (λ marks. growth_of rank id planned.initiations marks ≤ touched.starts) (sym (differ.initiations id)) (are.started id touched is);
    started_only = are.started_only;
  }

  bits-same : (new : List PlainEvent) (change : Change T) (looked : Looked) → AreBitsOf rank theory new before.store.events before.entries change looked
      → AreBitsOf rank theory new after.store.events after.entries change looked
  bits-same new change looked are = record {
    added = are.added;
    stayed = λ slot event is has.
        subst (λ (kept : Option (EventEntries T)). AreActiveBits theory (is_current theory new) (event_of rank event) (active_found slot looked.flips kept)) (sym (differ.slots slot.0))
        (are.stayed slot event (ap (event_at slot) (sym differ.events) ∙ is) has);
    of_events = by_events (λ events. All (λ (flip : Flip). IsSome (event_at flip.slot events)) looked.flips) are.of_events;
    not_removed = are.not_removed;
    apart = are.apart;
  }

  -- what is planned is planned for them too
  pub IsPlanned-same : (new : List PlainEvent) (change : Change T) (looked : Looked) (planned : Planned T) → IsPlanned rank theory new before change looked planned
      → IsPlanned rank theory new after change looked planned
  IsPlanned-same new change looked planned is = record {
    change_is = by_table (λ table. IsChange rank theory table after.store.events new change) (by_events (λ events. IsChange rank theory before.table events new change) is.change_is);
    bits = bits-same new change looked is.bits;
    marks = by_table (λ table. AreMarksPlanned rank theory (history_of rank after.store.events) new table planned)
        (by_events (λ events. AreMarksPlanned rank theory (history_of rank events) new before.table planned) is.marks);
    windows = windows-same planned is.windows;
    unmoved = by_table (λ table. KeepsWhatIsUnmoved theory (history_of rank after.store.events) new table planned)
        (by_events (λ events. KeepsWhatIsUnmoved theory (history_of rank events) new before.table planned) is.unmoved);
    seen = by_events (λ events. looked.seen ≡ (change_counts theory (history_of rank events) new).seen) is.seen;
    on = by_events (λ events. looked.on ≡ (change_counts theory (history_of rank events) new).on) is.on;
    off = by_events (λ events. looked.off ≡ (change_counts theory (history_of rank events) new).off) is.off;
  }

-- with all the room that it needs, what is planned is ready
pub IsReady-planned : {T : Type 0} (rank : T → ℤ) (theory : Theory) (new : List PlainEvent) (view : View T) (delta : Delta T)
    → IsPlanned rank theory new view delta.change delta.looked delta.planned → HasRoomForEvents view delta.change → HasRoomForMarks rank view delta.planned
    → HasRoomForIntervals rank view delta.planned → IsReady rank theory new view delta
IsReady-planned rank theory new view delta is events marks intervals = record {
  change = is.change_is;
  bits = is.bits;
  marks = is.marks;
  windows = is.windows;
  unmoved = is.unmoved;
  seen = is.seen;
  on = is.on;
  off = is.off;
  events_room = events;
  marks_room = marks;
  intervals_room = intervals;
}
