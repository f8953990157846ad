-- What it is for the change of all caches to be the one from a list of events to another, with all the room that it needs.
use Rattle.std.specs.Prelude.{◌≡◌, ℕ, ◌+◌, ◌*◌, ◌≤◌, ◌<◌, ◌≤ℤ◌, ℤ, if◌then◌else◌, List, Option, Some, None, length, IsTrue, IsSome, IsFalse}
use Rattle.std.specs.List.{All}
use Rattle.ec_terms.specs.declared.ids.Slot.{Slot}
use Rattle.ec_terms.specs.declared.ground.Ground.{Ground}
use Rattle.ec_terms.specs.declared.theory.Theory.{Theory}
use Rattle.ec_axioms.specs.declared.event.Event.{Event}
use Rattle.ec_axioms.specs.Calculus.{PlainEvent, is_current, intervals_of}
use Rattle.ec_axioms.specs.Changes.{has_event, change_counts}
use Rattle.ec_axioms.specs.Events.{event_of}
use Rattle.ec_axioms.specs.Marks.{PlainMark, mark_at}
use Rattle.ec_store.specs.Table.{KeptProp, prop_at, term_at}
use Rattle.ec_exclusive.specs.Forms.{breaks_by_initiation}
use Rattle.ec_rows.specs.PlainMarks.{plain_mark}
use Rattle.ec_store.specs.Store.{Kept, event_at, history_of}
use Rattle.ec_numbered.specs.ByNumber.{kept_at}
use Rattle.ec_entries.specs.Dependents.{Entered, count_on_all, room_of}
use Rattle.ec_points.specs.Changes.{Change as MarkChange, change_at, count_of, growth_of, has_change}
use Rattle.ec_points.specs.Clashes.{clashes_at, new_clashes}
use Rattle.ec_points.specs.Table.{marks_at, has_row, room_at}
use Rattle.ec_intervals.specs.Table.{room_at as span_room_at, has_row as has_intervals}
use Rattle.ec_parts.specs.Activity.{AreActiveBits}
use Rattle.ec_parts.specs.StandFor.{View}
use Rattle.ec_revise.specs.declared.change.Change.{Change}
use Rattle.ec_revise.specs.Change.{IsChange, has_slot}
use Rattle.ec_delta.specs.declared.delta.Delta.{Delta}
use Rattle.ec_delta.specs.declared.delta.Looked.{Looked}
use Rattle.ec_delta.specs.declared.delta.Planned.{Planned}
use Rattle.ec_delta.specs.declared.flips.Flip.{Flip}
use Rattle.ec_delta.specs.declared.touches.Touched.{Touched}
use Rattle.ec_delta.specs.Looked.{AreAddedBits, active_found, are_apart}
use Rattle.ec_delta.specs.Touched.{matters_at, touched_at}

-- ---- entries

-- The bits are those of the new list: each added event has its own, and each event that stays has those that are kept or the
-- new ones. New bits are of events that stay, and of each at most once.
pub record AreBitsOf {T : Type 0} (rank : T → ℤ) (theory : Theory) (new : List PlainEvent) (events : List (Kept T)) (entered : Entered T) (change : Change T) (looked : Looked) : Type 0 where
  pub added : AreAddedBits rank theory (is_current theory new) change.add looked.bits
  pub stayed : (slot : Slot) (event : Event T) → event_at slot events ≡ Some event → IsTrue (has_event new (event_of rank event))
      → AreActiveBits theory (is_current theory new) (event_of rank event) (active_found slot looked.flips (kept_at slot.0 entered.slots))
  pub of_events : All (λ (flip : Flip). IsSome (event_at flip.slot events)) looked.flips
  pub not_removed : All (λ (flip : Flip). IsFalse (has_slot flip.slot change.remove)) looked.flips
  pub apart : IsTrue (are_apart looked.flips)

-- ---- marks

-- the mark at an instant once a change is made there: the new one, or else the old
abbrev pub mark_made : {T : Type 0} → (T → ℤ) → Option (MarkChange T) → PlainMark → PlainMark
mark_made rank None old = old
mark_made rank (Some change) old = plain_mark rank change.1

-- a mark at an instant with the initiations alone, where they are kept
abbrev pub initiation_at : Theory → List PlainEvent → Ground → ℤ → PlainMark
initiation_at theory events p t =
    record { instant = t; inits = if breaks_by_initiation theory p then (mark_at theory events p t).inits else 0; terms = 0; clashes = 0 }

-- The changed marks are those of the new list: each kept property has its marks, and the initiations that are kept of it, at
-- every instant; and no other number has a change.
pub record AreMarksPlanned {T : Type 0} (rank : T → ℤ) (theory : Theory) (old new : List PlainEvent) (table : List KeptProp) (planned : Planned T) : Type 0 where
  pub marks : (id : ℕ) (p : Ground) (t : ℤ) → term_at id table ≡ Some p → mark_made rank (change_at rank id t planned.marks) (mark_at theory old p t) ≡ mark_at theory new p t
  pub initiations : (id : ℕ) (p : Ground) (t : ℤ) → term_at id table ≡ Some p
      → mark_made rank (change_at rank id t planned.initiations) (initiation_at theory old p t) ≡ initiation_at theory new p t
  pub of_kept : All (λ (change : MarkChange T). IsSome (prop_at change.0.0 table)) planned.marks
  pub starts_of_kept : All (λ (change : MarkChange T). IsSome (prop_at change.0.0 table)) planned.initiations

-- t lies in the window in which the marks of a property change
abbrev pub IsWithin : {T : Type 0} → (T → ℤ) → ℤ → Touched T → Type 0
IsWithin rank t touched = (rank touched.from ≤ℤ t) × (t ≤ℤ rank touched.until)

-- Each changed mark lies in the window of its property, which is in order; each touched property is kept, and has so many
-- changes, so many new marks and so many new initiations at most as are counted.
pub record AreWindows {T : Type 0} (rank : T → ℤ) (view : View T) (planned : Planned T) : Type 0 where
  pub windows : (id : ℕ) (t : ℤ) → IsTrue (has_change rank id t planned.marks) → (touched : Touched T) × (touched_at id planned.touched ≡ Some touched) × IsWithin rank t touched
  pub in_order : (id : ℕ) (touched : Touched T) → touched_at id planned.touched ≡ Some touched → rank touched.from ≤ℤ rank touched.until
  pub kept : (id : ℕ) (touched : Touched T) → touched_at id planned.touched ≡ Some touched → IsSome (prop_at id view.table)
  pub counted : (id : ℕ) (touched : Touched T) → touched_at id planned.touched ≡ Some touched → count_of id planned.marks ≤ touched.count
  pub grown : (id : ℕ) (touched : Touched T) → touched_at id planned.touched ≡ Some touched → growth_of rank id planned.marks (marks_at id view.points) ≤ touched.grows
  pub started : (id : ℕ) (touched : Touched T) → touched_at id planned.touched ≡ Some touched → growth_of rank id planned.initiations (marks_at id view.initiations) ≤ touched.starts
  pub started_only : (id : ℕ) → touched_at id planned.touched ≡ None → count_of id planned.initiations ≡ 0

-- a kept property of which no change matters keeps its intervals
abbrev pub KeepsWhatIsUnmoved : {T : Type 0} → Theory → List PlainEvent → List PlainEvent → List KeptProp → Planned T → Type 0
KeepsWhatIsUnmoved theory old new table planned =
    (id : ℕ) (p : Ground) → term_at id table ≡ Some p → IsFalse (matters_at id planned.touched) → intervals_of theory old p ≡ intervals_of theory new p

-- ---- room

-- the store and the entries have room for the added events
pub record HasRoomForEvents {T : Type 0} (view : View T) (change : Change T) : Type 0 where
  pub events : length change.add ≤ view.store.spare
  pub places : view.store.places ≤ length view.entries.slots
  pub dependents : (q : ℕ) → count_on_all q change.entries ≤ room_of q view.entries.rows

-- the rows have room for the marks that are new
pub record HasRoomForMarks {T : Type 0} (rank : T → ℤ) (view : View T) (planned : Planned T) : Type 0 where
  pub marks : (n : ℕ) → growth_of rank n planned.marks (marks_at n view.points) ≤ room_at n view.points
  pub clashes : new_clashes rank (λ n t. clashes_at rank n t view.points) planned.marks ≤ view.points.clash_room
  pub initiations : (n : ℕ) → growth_of rank n planned.initiations (marks_at n view.initiations) ≤ room_at n view.initiations

-- the rows of properties that matter, and the buffer that they share, have room for the intervals that may come
pub record HasRoomForIntervals {T : Type 0} (rank : T → ℤ) (view : View T) (planned : Planned T) : Type 0 where
  pub row : (n : ℕ) → IsTrue (matters_at n planned.touched) → IsTrue (has_intervals n view.intervals)
  pub marks_row : (n : ℕ) → IsTrue (matters_at n planned.touched) → IsTrue (has_row n view.points)
  pub spans : (n : ℕ) → IsTrue (matters_at n planned.touched) → 2 * count_of n planned.marks + 1 ≤ span_room_at n view.intervals
  pub buffer : (n : ℕ) → IsTrue (matters_at n planned.touched) → length (marks_at n view.points) + growth_of rank n planned.marks (marks_at n view.points) < view.intervals.buffer

-- ---- all together

-- The change of all caches is the one from the list of the store to a new list, and there is room for it.
pub record IsReady {T : Type 0} (rank : T → ℤ) (theory : Theory) (new : List PlainEvent) (view : View T) (delta : Delta T) : Type 0 where
  pub change : IsChange rank theory view.table view.store.events new delta.change
  pub bits : AreBitsOf rank theory new view.store.events view.entries delta.change delta.looked
  pub marks : AreMarksPlanned rank theory (history_of rank view.store.events) new view.table delta.planned
  pub windows : AreWindows rank view delta.planned
  pub unmoved : KeepsWhatIsUnmoved theory (history_of rank view.store.events) new view.table delta.planned
  pub seen : delta.looked.seen ≡ (change_counts theory (history_of rank view.store.events) new).seen
  pub on : delta.looked.on ≡ (change_counts theory (history_of rank view.store.events) new).on
  pub off : delta.looked.off ≡ (change_counts theory (history_of rank view.store.events) new).off
  pub events_room : HasRoomForEvents view delta.change
  pub marks_room : HasRoomForMarks rank view delta.planned
  pub intervals_room : HasRoomForIntervals rank view delta.planned
