-- What it is for the caches to be those of a list of events: the store, the entries, the marks, the initiations and the intervals.
-- Parts go by the numbers of properties and by slots; the calculus goes by terms and events.
use Rattle.std.specs.Prelude.{◌≡◌, ℕ, ℤ, false, if◌then◌else◌, List, [], map, filter, Option, Some, None}
use Rattle.ec_terms.specs.declared.ids.Slot.{Slot}
use Rattle.ec_terms.specs.declared.ground.Ground.{Ground}
use Rattle.ec_terms.specs.declared.theory.Theory.{Theory}
use Rattle.ec_terms.specs.Domain.{entries_of, is_initial}
use Rattle.ec_axioms.specs.declared.event.Event.{Event}
use Rattle.ec_axioms.specs.Calculus.{PlainEvent, is_current, intervals_of}
use Rattle.ec_axioms.specs.Events.{event_of}
use Rattle.ec_axioms.specs.Marks.{PlainMark, marks_of, mark_initiates}
use Rattle.ec_store.specs.Table.{KeptProp, prop_at, term_at}
use Rattle.ec_exclusive.specs.Forms.{breaks_by_initiation}
use Rattle.ec_rows.specs.PlainMarks.{plain_marks}
use Rattle.ec_store.specs.Store.{Store, history_of, event_at}
use Rattle.ec_context.specs.Entries.{shown_entries}
use Rattle.ec_numbered.specs.ByNumber.{kept_at}
use Rattle.ec_entries.specs.declared.event_entries.EventEntries.{EventEntries}
use Rattle.ec_entries.specs.Dependents.{Entered}
use Rattle.ec_points.specs.Table.{PointTable, marks_at, is_initial_at}
use Rattle.ec_intervals.specs.Table.{IntervalTable, members_at, plain_intervals}
use Rattle.ec_parts.specs.Activity.{AreActiveBits}

-- ---- events and entries

-- the store has these events
abbrev pub AreEventsOf : {T : Type 0} → (T → ℤ) → List PlainEvent → Store T → Type 0
AreEventsOf rank events store = history_of rank store.events ≡ events

-- what is kept of an event: its time, its entries with their properties by number, and which of them are active
pub record IsEntered {T : Type 0} (rank : T → ℤ) (theory : Theory) (events : List PlainEvent) (table : List KeptProp) (event : Event T) (kept : EventEntries T) : Type 0 where
  pub time : kept.at ≡ event.at
  pub entries : shown_entries table kept.list ≡ Some (entries_of theory event.term)
  pub active : AreActiveBits theory (is_current theory events) (event_of rank event) kept.active

-- a slot has an event and what is kept of it, or neither
abbrev pub IsEnteredIn : {T : Type 0} → (T → ℤ) → Theory → List PlainEvent → List KeptProp → Option (Event T) → Option (EventEntries T) → Type 0
IsEnteredIn rank theory events table None None = Unit {0}
IsEnteredIn rank theory events table None (Some kept) = ⊥
IsEnteredIn rank theory events table (Some event) None = ⊥
IsEnteredIn rank theory events table (Some event) (Some kept) = IsEntered rank theory events table event kept

-- the entries are those of the store's events, slot by slot
abbrev pub AreEntriesOf : {T : Type 0} → (T → ℤ) → Theory → List PlainEvent → List KeptProp → Store T → Entered T → Type 0
AreEntriesOf rank theory events table store entered =
    (slot : Slot) → IsEnteredIn rank theory events table (event_at slot store.events) (kept_at slot.0 entered.slots)

-- ---- marks

-- each kept property is initial by its number exactly where its term is, and no other number is
pub record AreInitialsOf {T : Type 0} (theory : Theory) (table : List KeptProp) (points : PointTable T) : Type 0 where
  pub initial : (id : ℕ) (p : Ground) → term_at id table ≡ Some p → is_initial_at id points ≡ is_initial theory p
  pub none : (id : ℕ) → prop_at id table ≡ None → is_initial_at id points ≡ false

-- the marks of each kept property are its marks in the calculus, and no other number has marks
pub record AreMarksOf {T : Type 0} (rank : T → ℤ) (theory : Theory) (events : List PlainEvent) (table : List KeptProp) (points : PointTable T) : Type 0 where
  pub marks : (id : ℕ) (p : Ground) → term_at id table ≡ Some p → plain_marks rank (marks_at id points) ≡ marks_of theory events p
  pub none : (id : ℕ) → prop_at id table ≡ None → marks_at id points ≡ []
  pub initials : AreInitialsOf theory table points

-- a mark with its initiations alone
abbrev pub initiations_of_mark : PlainMark → PlainMark
initiations_of_mark mark = record { instant = mark.instant; inits = mark.inits; terms = 0; clashes = 0 }

-- the marks of a property that initiate it, each with its initiations alone
abbrev pub initiations_of : Theory → List PlainEvent → Ground → List PlainMark
initiations_of theory events p = map initiations_of_mark (filter mark_initiates (marks_of theory events p))

-- the initiations that are kept of a property: all of one that an initiation may break, and none of another
abbrev pub kept_initiations : Theory → List PlainEvent → Ground → List PlainMark
kept_initiations theory events p = if breaks_by_initiation theory p then initiations_of theory events p else []

-- the initiations of each kept property that an initiation may break are its initiations in the calculus, and no other number has any
pub record AreInitiationsOf {T : Type 0} (rank : T → ℤ) (theory : Theory) (events : List PlainEvent) (table : List KeptProp) (points : PointTable T) : Type 0 where
  pub marks : (id : ℕ) (p : Ground) → term_at id table ≡ Some p → plain_marks rank (marks_at id points) ≡ kept_initiations theory events p
  pub none : (id : ℕ) → prop_at id table ≡ None → marks_at id points ≡ []

-- ---- intervals

-- the intervals of each kept property are its maximal validity intervals, and no other number has an interval
pub record AreIntervalsOf {T : Type 0} (rank : T → ℤ) (theory : Theory) (events : List PlainEvent) (table : List KeptProp) (intervals : IntervalTable T) : Type 0 where
  pub members : (id : ℕ) (p : Ground) → term_at id table ≡ Some p → plain_intervals rank (members_at id intervals) ≡ intervals_of theory events p
  pub none : (id : ℕ) → prop_at id table ≡ None → members_at id intervals ≡ []
