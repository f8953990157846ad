-- What differs between two lists of events at an instant, and what makes an instant quiet.
use Rattle.std.specs.Prelude.{ℕ, ◌<◌, pos, ◌+ℤ◌, ◌≡◌, Bool, not, List, ℤ, flat_map, IsTrue, IsFalse}
use Rattle.std.specs.Bool.{beq}
use Rattle.std.specs.List.{list_any}
use Rattle.ec_terms.specs.declared.ground.Ground.{Ground}
use Rattle.ec_terms.specs.declared.theory.Theory.{Theory}
use Rattle.ec_terms.specs.Term.{term_eq}
use Rattle.ec_terms.specs.Domain.{GroundLiteral}
use Rattle.ec_axioms.specs.Plain.{events_at}
use Rattle.ec_axioms.specs.Calculus.{PlainEvent, Effect, effects_of, is_current}
use Rattle.ec_axioms.specs.Marks.{is_marked, mark_at}

-- the currency of a property at an instant is not the same in the two lists
unfoldable pub differs : Theory → List PlainEvent → List PlainEvent → Ground → ℤ → Bool
differs theory old new p t = not (beq (is_current theory old p t) (is_current theory new p t))

-- the entries of the events at an instant, active or not
abbrev pub entries_at : Theory → List PlainEvent → ℤ → List Effect
entries_at theory events t = flat_map (effects_of theory) (events_at t events)

-- an entry reads a property: it has a literal on it
unfoldable pub reads : Ground → Effect → Bool
reads p effect = list_any (λ (literal : GroundLiteral). term_eq literal.prop p) effect.entry.literals

-- An instant is quiet for the properties that pass a test: the events there are the same in both lists, and none of
-- their entries reads such a property, and no such property has a mark there.
pub record IsQuiet (theory : Theory) (old new : List PlainEvent) (changed : Ground → Bool) (t : ℤ) : Type 0 where
  pub same_events : events_at t old ≡ events_at t new
  pub unread : (p : Ground) → IsTrue (changed p) → IsFalse (list_any (reads p) (entries_at theory old t))
  pub unmarked : (p : Ground) → IsTrue (changed p) → IsFalse (is_marked (mark_at theory old p t))

-- n whole numbers from r on are quiet for what differs at r
abbrev pub IsQuietStretch : Theory → List PlainEvent → List PlainEvent → ℤ → ℕ → Type 0
IsQuietStretch theory old new r n = (k : ℕ) → k < n → IsQuiet theory old new (λ p. differs theory old new p r) (r +ℤ pos k)
