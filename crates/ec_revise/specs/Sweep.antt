-- What a sweep over the instants has found between an old and a new list of events, and what it is to have swept up to an
-- instant. All goes by terms, whole numbers and entries here; the tables in which a program keeps it stand elsewhere.
use Rattle.std.specs.Prelude.{Contains, ◌≡◌, ◌⊎◌, ℕ, Bool, ◌||◌, if◌then◌else◌, List, ℤ, pos, ◌+ℤ◌, ◌<ℤ◌, ◌≤ℤ◌, Option, Some, None, unwrap_or, is_some, IsTrue, IsFalse}
use Rattle.std.specs.Bool.{beq}
use Rattle.std.specs.List.{list_any}
use Rattle.ec_terms.specs.declared.ground.Ground.{Ground}
use Rattle.ec_terms.specs.declared.theory.Theory.{Theory}
use Rattle.ec_axioms.specs.Calculus.{PlainEvent, Effect, is_active, is_current}
use Rattle.ec_axioms.specs.Marks.{PlainMark, mark_at, is_marked}
use Rattle.ec_axioms.specs.Changes.{is_history}
use Rattle.ec_axioms.specs.Links.{is_live}
use Rattle.ec_changes.specs.Differences.{entries_at, reads}
use Rattle.ec_changes.specs.Turns.{sees, turns_on, turns_off, kept_count}
use Rattle.ec_changes.specs.IntervalLaws.{IsInert}

-- What a sweep has found so far. Dirty are the properties whose currency differs just behind the swept instant, each with its
-- new currency; planned are the marks that change; active says which entries are active, as far as it is known; the property
-- matters if a planned mark may change its intervals; the agenda says at which instants a property is due.
pub record Found : Type 0 where
  pub dirty : Ground → Option Bool
  pub planned : Ground → ℤ → Option PlainMark
  pub active : Effect → Bool
  pub matters : Ground → Bool
  pub agenda : ℤ → Ground → Bool
  pub seen : ℕ
  pub on : ℕ
  pub off : ℕ

-- Two histories to sweep between, and a test of properties that passes all that are live in one of them.
pub record AreCompared (theory : Theory) (old new : List PlainEvent) (kept : Ground → Bool) : Type 0 where
  pub old_history : IsTrue (is_history old)
  pub new_history : IsTrue (is_history new)
  pub live : (p : Ground) → IsTrue (is_live theory old p || is_live theory new p) → IsTrue (kept p)

-- the new currency, if it is not the old one
abbrev pub other_currency : Bool → Bool → Option Bool
other_currency before after = if beq before after then None else Some after

-- a property has a mark at an instant, or an entry there reads it
abbrev pub bears_on : Theory → List PlainEvent → Ground → ℤ → Bool
bears_on theory events p t = is_marked (mark_at theory events p t) || list_any (reads p) (entries_at theory events t)

-- the mark of a property at an instant with what is planned: the planned one, or else the old one
abbrev pub mark_found : Theory → List PlainEvent → Found → Ground → ℤ → PlainMark
mark_found theory old found p t = unwrap_or (found.planned p t) (mark_at theory old p t)

-- a property is due after r, and at u at the latest
pub record IsDueBy (agenda : ℤ → Ground → Bool) (p : Ground) (r u : ℤ) : Type 0 where
  pub time : ℤ
  pub after : r <ℤ time
  pub by : time ≤ℤ u
  pub due : IsTrue (agenda time p)

-- The sweep has come up to an instant and with it. Just behind it the dirty properties are those that differ. Up to it the
-- marks of kept properties are those of the new list, and its entries are active as there; behind it nothing is planned, and the
-- entries of the old list are active as in the old list. Counted are the kept entries up to it. Whatever bears on a dirty
-- property later is on the agenda by then.
pub record Swept (theory : Theory) (old new : List PlainEvent) (kept : Ground → Bool) (r : ℤ) (found : Found) : Type 0 where
  pub dirty : (p : Ground) → found.dirty p ≡ other_currency (is_current theory old p (r +ℤ pos 1)) (is_current theory new p (r +ℤ pos 1))
  pub marks : (p : Ground) (t : ℤ) → IsTrue (kept p) → t ≤ℤ r → mark_found theory old found p t ≡ mark_at theory new p t
  pub none_planned : (p : Ground) (t : ℤ) → r <ℤ t → found.planned p t ≡ None
  pub active : (effect : Effect) (t : ℤ) → t ≤ℤ r → Contains (entries_at theory new t) effect → found.active effect ≡ is_active (is_current theory new) effect
  pub not_yet : (effect : Effect) (t : ℤ) → r <ℤ t → Contains (entries_at theory old t) effect → found.active effect ≡ is_active (is_current theory old) effect
  pub inert : (p : Ground) (t : ℤ) → IsTrue (kept p) → t ≤ℤ r → IsFalse (found.matters p)
      → (mark_at theory old p t ≡ mark_at theory new p t) ⊎ IsInert theory old new p t
  pub seen : found.seen ≡ kept_count theory old new (sees theory old new) (r +ℤ pos 1)
  pub on : found.on ≡ kept_count theory old new (turns_on theory old new) (r +ℤ pos 1)
  pub off : found.off ≡ kept_count theory old new (turns_off theory old new) (r +ℤ pos 1)
  pub due : (p : Ground) (u : ℤ) → IsTrue (is_some (found.dirty p)) → r <ℤ u → IsTrue (bears_on theory old p u) → IsDueBy found.agenda p r u
  pub ahead : (p : Ground) (t : ℤ) → IsTrue (found.agenda t p) → r <ℤ t
