-- Which entries cause a change of a property, and which of them is the first.
use Rattle.std.specs.Prelude.{◌≡◌, ℕ, Bool, false, ◌&&◌, List, map, find, Option, Some, option_map, slice_get}
use Rattle.std.specs.Option.{option_map_or}
use Rattle.ec_terms.specs.declared.ground.Ground.{Ground}
use Rattle.ec_terms.specs.declared.theory.Theory.{Theory}
use Rattle.ec_terms.specs.Domain.{GroundEntry}
use Rattle.ec_axioms.specs.Calculus.{PlainCause, PlainEvent, Effect, cause_of, effects_of, is_active, is_breaking, is_current, is_initiating, is_terminating}
use Rattle.ec_store.specs.Table.{KeptProp}
use Rattle.ec_context.specs.declared.entry.Entry.{Entry}
use Rattle.ec_context.specs.Entries.{shown_entries}
use Rattle.ec_parts.specs.Activity.{is_bit_set}
use Rattle.ec_query.specs.declared.sought.Sought.{Sought}
use Rattle.ec_query.specs.declared.sought.Sought.TheVariants.{Initiation, Termination, Break}

-- an entry does to the property what is sought, if it is active: initiate it, terminate it, or break it otherwise
abbrev pub is_sought : Theory → Ground → Sought → GroundEntry → Bool
is_sought theory p Initiation = is_initiating p
is_sought theory p Termination = is_terminating p
is_sought theory p Break = is_breaking theory p

-- an effect is what is sought, and active
abbrev pub is_cause : Theory → List PlainEvent → (GroundEntry → Bool) → Effect → Bool
is_cause theory events wanted effect = wanted effect.entry && is_active (is_current theory events) effect

-- entries by number are those of some effects, and the bits of a word say which of these are active
pub record AreEffects (theory : Theory) (events : List PlainEvent) (table : List KeptProp) (entries : List Entry) (active : ℕ) (effects : List Effect) : Type 0 where
  pub shown : shown_entries table entries ≡ Some (map (λ effect. effect.entry) effects)
  pub bits : (k : ℕ) → is_bit_set active k ≡ option_map_or (is_active (is_current theory events)) (slice_get effects k) false

-- the first cause among the entries of one event
abbrev pub first_of_event : Theory → List PlainEvent → (GroundEntry → Bool) → PlainEvent → Option PlainCause
first_of_event theory events wanted e = option_map cause_of (find (is_cause theory events wanted) (effects_of theory e))
