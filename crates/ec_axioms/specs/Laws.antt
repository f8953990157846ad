-- The laws of the calculus, as statements. Each is the contract of a function of the module of laws.
use Rattle.std.specs.Prelude.{◌≡◌, ◌↔◌, Bool, true, false, List, ℤ, ◌≤ℤ◌, ◌<ℤ◌, int_lt, int_le, filter, map, IsTrue, IsFalse, IsSomeAnd, Contains}
use Rattle.ec_terms.specs.declared.ground.Ground.{Ground}
use Rattle.ec_terms.specs.declared.theory.Theory.{Theory}
use Rattle.ec_terms.specs.Domain.{GroundEntry, are_exclusive, is_strong, is_initial}
use Rattle.ec_axioms.specs.Timeline.{Begin, before_all, begin_at, Interval, Reason, reason_yes, reason_never, reason_ended, reason_broken, is_current_on, is_after, is_start, begins_of, next_break, covers}
use Rattle.ec_axioms.specs.Calculus.{PlainEvent, Effect, Currency, is_active, effects_at, is_initiated, has_break, timeline_by, timeline_of, is_current, intervals_of, broken_of, holds_at, holds_through, reason_of}
use Rattle.ec_axioms.specs.Links.{mentions_of, is_live}
use Rattle.ec_axioms.specs.Marks.{marks_of, last_mark_before, current_after, spans_of, broken_spans_of}
use Rattle.ec_axioms.specs.Changes.{is_history}

-- ---- currency

-- a currency agrees with the timelines whose contexts read it
abbrev pub SolvesEquation : Theory → List PlainEvent → Currency → Type 0
SolvesEquation theory events current =
    (p : Ground) (t : ℤ) → current p t ≡ is_current_on (timeline_by theory events current p) t

-- the currency of a history is the one currency that does
abbrev pub CurrencyIsTheSolution : Type 0
CurrencyIsTheSolution =
    ((theory : Theory) (events : List PlainEvent) → SolvesEquation theory events (is_current theory events))
    × ((theory : Theory) (events : List PlainEvent) (current : Currency) → SolvesEquation theory events current
    → (p : Ground) (t : ℤ) → current p t ≡ is_current theory events p t)

-- the events before t, and those up to and with t
abbrev pub events_before : ℤ → List PlainEvent → List PlainEvent
events_before t events = filter (λ e. int_lt e.rank t) events

abbrev pub events_up_to : ℤ → List PlainEvent → List PlainEvent
events_up_to t events = filter (λ e. int_le e.rank t) events

-- The past is closed. What is current at t, and at any time before it, follows from the events strictly before t, and so
-- does whether an entry of an event at t or before is active; what takes effect at t follows from the events up to and with t.
abbrev pub PastIsClosed : Type 0
PastIsClosed =
    ((theory : Theory) (old new : List PlainEvent) (t u : ℤ) (p : Ground) → events_before t old ≡ events_before t new → u ≤ℤ t
    → is_current theory old p u ≡ is_current theory new p u)
    × ((theory : Theory) (old new : List PlainEvent) (t : ℤ) (wanted : GroundEntry → Bool) → events_up_to t old ≡ events_up_to t new
    → effects_at theory old (is_current theory old) wanted t ≡ effects_at theory new (is_current theory new) wanted t)
    × ((theory : Theory) (old new : List PlainEvent) (t : ℤ) (effect : Effect) → events_before t old ≡ events_before t new → effect.event.rank ≤ℤ t
    → is_active (is_current theory old) effect ≡ is_active (is_current theory new) effect)

-- A property is current at t exactly where the last mark before t initiates it, or there is none and it is initial.
abbrev pub CurrencyIsOfTheLastMark : Type 0
CurrencyIsOfTheLastMark =
    (theory : Theory) (events : List PlainEvent) (p : Ground) (t : ℤ) → IsTrue (is_history events)
    → is_current theory events p t ≡ current_after (is_initial theory p) (last_mark_before (marks_of theory events p) t)

-- ---- intervals

-- the intervals and broken begins that a property's marks spell are its own
abbrev pub SpansAreTheIntervals : Type 0
SpansAreTheIntervals =
    (theory : Theory) (events : List PlainEvent) (p : Ground) → IsTrue (is_history events)
    → (spans_of (marks_of theory events p) (is_strong theory p) (is_initial theory p) ≡ intervals_of theory events p)
    × (broken_spans_of (marks_of theory events p) (is_strong theory p) (is_initial theory p) ≡ broken_of theory events p)

-- Intervals of one property are disjoint: where a property begins, and starts again at a later instant s, the
-- next break after the begin comes not after s.
abbrev pub IntervalsAreDisjoint : Type 0
IntervalsAreDisjoint =
    (theory : Theory) (events : List PlainEvent) (p : Ground) (begin : Begin) (s : ℤ) → IsTrue (is_history events)
    → let line = timeline_of theory events p in
    Contains (begins_of line) begin → Contains (begins_of line) (begin_at s) → IsTrue (is_after begin s)
    → IsSomeAnd (next_break line begin) (λ x. x ≤ℤ s)

-- A time is covered by at most one interval of a property.
abbrev pub AtMostOneIntervalCovers : Type 0
AtMostOneIntervalCovers =
    (theory : Theory) (events : List PlainEvent) (p : Ground) (t : ℤ) (i j : Interval) → IsTrue (is_history events)
    → Contains (intervals_of theory events p) i → Contains (intervals_of theory events p) j → IsTrue (covers t i) → IsTrue (covers t j) → i ≡ j

-- Two exclusive properties hold at one time only through intervals with one beginning.
abbrev pub ExclusivesShareOnlyABeginning : Type 0
ExclusivesShareOnlyABeginning =
    (theory : Theory) (events : List PlainEvent) (p q : Ground) (t : ℤ) (i j : Interval) → IsTrue (is_history events) → IsTrue (are_exclusive theory p q)
    → Contains (intervals_of theory events p) i → Contains (intervals_of theory events q) j → IsTrue (covers t i) → IsTrue (covers t j)
    → i.from ≡ j.from

-- ---- holding

-- holding through a stretch is holding at each whole number of it
abbrev pub ThroughIsEachInstant : Type 0
ThroughIsEachInstant =
    (theory : Theory) (events : List PlainEvent) (p : Ground) (a b : ℤ) → IsTrue (is_history events) → a ≤ℤ b
    → IsTrue (holds_through theory events p a b) ↔ ((t : ℤ) → a ≤ℤ t → t ≤ℤ b → IsTrue (holds_at theory events p t))

-- the reason is yes
abbrev pub is_yes : Reason → Bool
is_yes (reason_yes begin until) = true
is_yes reason_never = false
is_yes (reason_ended begin x) = false
is_yes (reason_broken begin x) = false

-- a property holds at t exactly where the reason for it there is yes
abbrev pub HoldingIsTheReasonYes : Type 0
HoldingIsTheReasonYes =
    (theory : Theory) (events : List PlainEvent) (p : Ground) (t : ℤ) → IsTrue (is_history events)
    → holds_at theory events p t ≡ is_yes (reason_of theory events p t)

-- ---- what is not initial

-- an instant before t initiates the property, and no break lies between it and t
pub record IsCarriedOver (theory : Theory) (events : List PlainEvent) (p : Ground) (t : ℤ) : Type 0 where
  pub since : ℤ
  pub before : since <ℤ t
  pub initiated : IsTrue (is_initiated theory events (is_current theory events) p since)
  pub unbroken : (u : ℤ) → since <ℤ u → u <ℤ t → IsFalse (has_break theory events (is_current theory events) p u)

-- What is not initial is current at t exactly where some instant before t initiates it and no break lies between.
abbrev pub CurrentOnlyIfCarriedOver : Type 0
CurrentOnlyIfCarriedOver =
    (theory : Theory) (events : List PlainEvent) (p : Ground) (t : ℤ) → IsFalse (is_initial theory p)
    → IsTrue (is_current theory events p t) ↔ IsCarriedOver theory events p t

-- The begins of what is not initial are its starts; none lies before all events.
abbrev pub BegunOnlyByAStart : Type 0
BegunOnlyByAStart =
    (theory : Theory) (events : List PlainEvent) (p : Ground) → IsFalse (is_initial theory p)
    → let line = timeline_of theory events p in
    (begins_of line ≡ map begin_at (filter (is_start line) line.instants)) × ¬ (Contains (begins_of line) before_all)

-- What is not initial is live exactly where it has a mention.
abbrev pub LiveOnlyIfMentioned : Type 0
LiveOnlyIfMentioned =
    (theory : Theory) (events : List PlainEvent) (p : Ground) → IsFalse (is_initial theory p)
    → IsTrue (is_live theory events p) ↔ Contains (mentions_of theory events) p
