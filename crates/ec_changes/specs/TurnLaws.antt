-- The laws of what turned between two lists of events, as statements.
use Rattle.std.specs.Prelude.{filter, ◌&&◌, ◌≡◌, ◌↔◌, ◌+◌, Bool, List, ℤ, length, IsTrue, IsFalse}
use Rattle.ec_terms.specs.declared.ground.Ground.{Ground}
use Rattle.ec_terms.specs.declared.theory.Theory.{Theory}
use Rattle.ec_terms.specs.Domain.{GroundEntry}
use Rattle.ec_axioms.specs.Calculus.{PlainEvent, Effect, is_active, effects_at, is_current, is_initiating, is_terminating, is_clashing}
use Rattle.ec_axioms.specs.Marks.{mark_at}
use Rattle.ec_axioms.specs.Changes.{is_history, has_event, kept_events, events_only_in}
use Rattle.ec_changes.specs.Differences.{differs, reads, entries_at}
use Rattle.ec_changes.specs.Turns.{sees, turns_on, turns_off, gained, lost, ListsSeen}

-- Two histories with the same events are the same list.
abbrev pub SameEventsSameHistory : Type 0
SameEventsSameHistory =
    (these those : List PlainEvent) → IsTrue (is_history these) → IsTrue (is_history those)
    → ((e : PlainEvent) → has_event these e ≡ has_event those e) → these ≡ those

-- What stands in both of two histories is one list, whichever of the two it is taken from.
abbrev pub KeptIsOfBoth : Type 0
KeptIsOfBoth =
    (old new : List PlainEvent) → IsTrue (is_history old) → IsTrue (is_history new) → kept_events old new ≡ kept_events new old

-- An entry sees a change exactly when it reads a property that differs at its time.
abbrev pub SeeingIsReading : Type 0
SeeingIsReading =
    (theory : Theory) (old new : List PlainEvent) (effect : Effect)
    → IsTrue (sees theory old new effect) ↔ ((p : Ground) × IsTrue (differs theory old new p effect.event.rank) × IsTrue (reads p effect))

-- An entry that sees no change is active in both lists, or in neither.
abbrev pub UnseenStays : Type 0
UnseenStays =
    (theory : Theory) (old new : List PlainEvent) (effect : Effect) → IsFalse (sees theory old new effect)
    → is_active (is_current theory old) effect ≡ is_active (is_current theory new) effect

-- What takes effect at an instant in the new list is what took effect there in the old one, with what was gained and
-- without what was lost.
abbrev pub EffectsFollowTurns : Type 0
EffectsFollowTurns =
    (theory : Theory) (old new : List PlainEvent) (wanted : GroundEntry → Bool) (t : ℤ) → IsTrue (is_history old) → IsTrue (is_history new)
    → length (effects_at theory new (is_current theory new) wanted t) + lost theory old new wanted t
    ≡ length (effects_at theory old (is_current theory old) wanted t) + gained theory old new wanted t

-- the three counts of a property at an instant, each by what was gained and lost of what it counts
pub record FollowsTurns (theory : Theory) (old new : List PlainEvent) (p : Ground) (t : ℤ) : Type 0 where
  pub inits : (mark_at theory new p t).inits + lost theory old new (is_initiating p) t ≡ (mark_at theory old p t).inits + gained theory old new (is_initiating p) t
  pub terms : (mark_at theory new p t).terms + lost theory old new (is_terminating p) t ≡ (mark_at theory old p t).terms + gained theory old new (is_terminating p) t
  pub clashes : (mark_at theory new p t).clashes + lost theory old new (is_clashing theory p) t ≡ (mark_at theory old p t).clashes + gained theory old new (is_clashing theory p) t

-- The marks at an instant follow from the old marks there and the entries that turned.
abbrev pub MarksFollowTurns : Type 0
MarksFollowTurns =
    (theory : Theory) (old new : List PlainEvent) (p : Ground) (t : ℤ) → IsTrue (is_history old) → IsTrue (is_history new)
    → FollowsTurns theory old new p t

-- what is counted at an instant, read off a list of the entries that see a change
pub record IsCountedBy (theory : Theory) (old new : List PlainEvent) (t : ℤ) (seen : List Effect) : Type 0 where
  pub seen_there : length (filter (sees theory old new) (entries_at theory (kept_events old new) t)) ≡ length seen
  pub on : length (filter (turns_on theory old new) (entries_at theory (kept_events old new) t)) ≡ length (filter (turns_on theory old new) seen)
  pub off : length (filter (turns_off theory old new) (entries_at theory (kept_events old new) t)) ≡ length (filter (turns_off theory old new) seen)
  pub gained_by : (wanted : GroundEntry → Bool) → gained theory old new wanted t
      ≡ length (filter (λ effect. wanted effect.entry && turns_on theory old new effect) seen)
      + length (effects_at theory (events_only_in new old) (is_current theory new) wanted t)
  pub lost_by : (wanted : GroundEntry → Bool) → lost theory old new wanted t
      ≡ length (filter (λ effect. wanted effect.entry && turns_off theory old new effect) seen)
      + length (effects_at theory (events_only_in old new) (is_current theory old) wanted t)

-- Only entries that see a change turn, so a list of these in any order counts all that turned.
abbrev pub SeenInAnyOrder : Type 0
SeenInAnyOrder =
    (theory : Theory) (old new : List PlainEvent) (t : ℤ) (seen : List Effect) → IsTrue (is_history old)
    → ListsSeen theory old new t seen → IsCountedBy theory old new t seen
