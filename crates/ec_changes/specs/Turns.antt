-- What turned at an instant between two lists of events: entries that came to act there, and entries that ceased to.
use Rattle.std.specs.Prelude.{◌==◌, IsTrue, Contains, ℕ, ◌+◌, Bool, not, ◌&&◌, List, ℤ, length, filter, int_lt}
use Rattle.std.specs.List.{list_any, IsDistinct}
use Rattle.ec_terms.specs.declared.theory.Theory.{Theory}
use Rattle.ec_terms.specs.Domain.{GroundEntry}
use Rattle.ec_axioms.specs.Calculus.{PlainEvent, Effect, is_active, effects_at, is_current}
use Rattle.ec_axioms.specs.Changes.{event_eq, kept_events, events_only_in, kept_effects, sees_change}
use Rattle.ec_changes.specs.Differences.{entries_at}

-- the entries at an instant that pass a test, of events that stand in both lists
abbrev pub kept_entries_at : Theory → List PlainEvent → List PlainEvent → (GroundEntry → Bool) → ℤ → List Effect
kept_entries_at theory old new wanted t = filter (λ effect. wanted effect.entry) (entries_at theory (kept_events old new) t)

-- an entry became active
abbrev pub turns_on : Theory → List PlainEvent → List PlainEvent → Effect → Bool
turns_on theory old new effect = not (is_active (is_current theory old) effect) && is_active (is_current theory new) effect

-- an entry became inactive
abbrev pub turns_off : Theory → List PlainEvent → List PlainEvent → Effect → Bool
turns_off theory old new effect = is_active (is_current theory old) effect && not (is_active (is_current theory new) effect)

-- an entry sees a property that it reads change
abbrev pub sees : Theory → List PlainEvent → List PlainEvent → Effect → Bool
sees theory old new = sees_change (is_current theory old) (is_current theory new)

-- how many entries that pass a test came to act at an instant: those turned on, and the active ones of added events
unfoldable pub gained : Theory → List PlainEvent → List PlainEvent → (GroundEntry → Bool) → ℤ → ℕ
gained theory old new wanted t =
    length (filter (turns_on theory old new) (kept_entries_at theory old new wanted t)) + length (effects_at theory (events_only_in new old) (is_current theory new) wanted t)

-- how many ceased to act there: those turned off, and the formerly active ones of removed events
unfoldable pub lost : Theory → List PlainEvent → List PlainEvent → (GroundEntry → Bool) → ℤ → ℕ
lost theory old new wanted t =
    length (filter (turns_off theory old new) (kept_entries_at theory old new wanted t)) + length (effects_at theory (events_only_in old new) (is_current theory old) wanted t)

-- how many entries of kept events before an instant pass a test
unfoldable pub kept_count : Theory → List PlainEvent → List PlainEvent → (Effect → Bool) → ℤ → ℕ
kept_count theory old new test t = length (filter (λ effect. int_lt effect.event.rank t && test effect) (kept_effects theory old new))

-- two entries of events are the same: of the same event, by the same rule
unfoldable pub same_entry : Effect → Effect → Bool
same_entry effect other = event_eq effect.event other.event && effect.entry.rule == other.entry.rule

-- A list has the kept entries at an instant that see a change, in any order and each once.
pub record ListsSeen (theory : Theory) (old new : List PlainEvent) (t : ℤ) (seen : List Effect) : Type 0 where
  pub once : IsDistinct same_entry seen
  pub kept : (effect : Effect) → Contains seen effect → Contains (entries_at theory (kept_events old new) t) effect × IsTrue (sees theory old new effect)
  pub all : (effect : Effect) → Contains (entries_at theory (kept_events old new) t) effect → IsTrue (sees theory old new effect)
      → IsTrue (list_any (same_entry effect) seen)
