-- The laws of what stays the same between two lists of events, as statements.
use Rattle.std.specs.Prelude.{Contains, ◌≡◌, ℕ, ◌<◌, ◌||◌, ◌&&◌, not, ◌++◌, Bool, if◌then◌else◌, List, [], ℤ, pos, ◌+ℤ◌, ◌<ℤ◌, ◌≤ℤ◌, int_le, filter, int_lt, IsTrue}
use Rattle.std.specs.List.{list_all}
use Rattle.ec_terms.specs.declared.ground.Ground.{Ground}
use Rattle.ec_terms.specs.declared.theory.Theory.{Theory}
use Rattle.ec_axioms.specs.Plain.{events_at}
use Rattle.ec_axioms.specs.Timeline.{is_start}
use Rattle.ec_axioms.specs.Calculus.{PlainEvent, Effect, is_active, is_initiated, has_break, is_current, timeline_of}
use Rattle.ec_axioms.specs.Marks.{PlainMark, mark_at, marks_of, is_marked, mark_initiates}
use Rattle.ec_axioms.specs.Changes.{is_history, events_only_in}
use Rattle.ec_changes.specs.Differences.{differs, entries_at, IsQuiet, IsQuietStretch}

-- Current at the next whole number: initiated now, or current now and not broken now.
abbrev pub CurrencyGoesOn : Type 0
CurrencyGoesOn =
    (theory : Theory) (events : List PlainEvent) (p : Ground) (t : ℤ)
    → let current = is_current theory events in
    current p (t +ℤ pos 1) ≡ (is_initiated theory events current p t || (current p t && not (has_break theory events current p t)))

-- whether a property is current just behind an instant, from its currency there and its mark there: a mark with a count
-- decides it alone
abbrev pub current_behind : Bool → PlainMark → Bool
current_behind current mark = if is_marked mark then mark_initiates mark else current

-- Current at the next whole number, by the mark here.
abbrev pub CurrencyBehindMarks : Type 0
CurrencyBehindMarks =
    (theory : Theory) (events : List PlainEvent) (p : Ground) (t : ℤ)
    → is_current theory events p (t +ℤ pos 1) ≡ current_behind (is_current theory events p t) (mark_at theory events p t)

-- A quiet instant has the same marks in both lists, and what differs at it differs at the next whole number.
abbrev pub QuietInstantsPassOn : Type 0
QuietInstantsPassOn =
    (theory : Theory) (old new : List PlainEvent) (t : ℤ) → IsQuiet theory old new (λ p. differs theory old new p t) t
    → (p : Ground) → (mark_at theory new p t ≡ mark_at theory old p t) × (differs theory old new p (t +ℤ pos 1) ≡ differs theory old new p t)

-- A quiet stretch has the same marks in both lists, and what differs at its beginning differs behind it.
abbrev pub QuietStretchesPassOn : Type 0
QuietStretchesPassOn =
    (theory : Theory) (old new : List PlainEvent) (r : ℤ) (n : ℕ) (p : Ground) → IsQuietStretch theory old new r n
    → ((k : ℕ) → k < n → mark_at theory new p (r +ℤ pos k) ≡ mark_at theory old p (r +ℤ pos k))
    × (differs theory old new p (r +ℤ pos n) ≡ differs theory old new p r)

-- In a quiet stretch each entry is active in both lists, or in neither.
abbrev pub QuietEntriesStay : Type 0
QuietEntriesStay =
    (theory : Theory) (old new : List PlainEvent) (r : ℤ) (n k : ℕ) (effect : Effect) → IsQuietStretch theory old new r n
    → k < n → Contains (entries_at theory old (r +ℤ pos k)) effect
    → is_active (is_current theory old) effect ≡ is_active (is_current theory new) effect

-- the events that stand in one of two lists alone
abbrev pub single_events : List PlainEvent → List PlainEvent → List PlainEvent
single_events old new = events_only_in old new ++ events_only_in new old

-- An instant with none of them has the same events in both lists.
abbrev pub EventsStay : Type 0
EventsStay =
    (old new : List PlainEvent) (t : ℤ) → IsTrue (is_history old) → IsTrue (is_history new) → events_at t (single_events old new) ≡ []
    → events_at t old ≡ events_at t new

-- the marks of a row before an instant
abbrev pub marks_before : ℤ → List PlainMark → List PlainMark
marks_before t marks = filter (λ mark. int_lt mark.instant t) marks

-- each event that stands in one of the lists alone is at t or later
abbrev pub DifferFrom : ℤ → List PlainEvent → List PlainEvent → Type 0
DifferFrom t old new = IsTrue (list_all (λ e. int_le t e.rank) (single_events old new))

-- what stays the same up to t
pub record IsSameUpTo (theory : Theory) (old new : List PlainEvent) (t : ℤ) : Type 0 where
  pub currency : (p : Ground) (s : ℤ) → s ≤ℤ t → is_current theory old p s ≡ is_current theory new p s
  pub marks : (p : Ground) (s : ℤ) → s <ℤ t → mark_at theory old p s ≡ mark_at theory new p s
  pub rows : (p : Ground) → marks_before t (marks_of theory old p) ≡ marks_before t (marks_of theory new p)
  pub starts : (p : Ground) (s : ℤ) → s <ℤ t → is_start (timeline_of theory old p) s ≡ is_start (timeline_of theory new p) s
  pub activity : (effect : Effect) → effect.event.rank ≤ℤ t → is_active (is_current theory old) effect ≡ is_active (is_current theory new) effect

-- Before the first event that stands in one list alone everything is as it was.
abbrev pub PastStays : Type 0
PastStays =
    (theory : Theory) (old new : List PlainEvent) (t : ℤ) → IsTrue (is_history old) → IsTrue (is_history new) → DifferFrom t old new
    → IsSameUpTo theory old new t
