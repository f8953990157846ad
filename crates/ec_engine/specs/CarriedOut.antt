-- What it is to carry out a change: the caches follow the tables to the list that it leads to, or all goes back.
use Rattle.std.specs.Prelude.{◌≡◌, ℤ, ◌||◌, List, Result, Ok, Err}
use Rattle.ec_terms.specs.declared.ids.PropId.{PropId}
use Rattle.ec_lists.specs.declared.no_memory.NoMemory.{NoMemory}
use Rattle.ec_terms.specs.declared.theory.Theory.{Theory}
use Rattle.ec_axioms.specs.declared.event.Seen.{Seen}
use Rattle.ec_axioms.specs.Calculus.{PlainEvent}
use Rattle.ec_axioms.specs.Changes.{change_counts}
use Rattle.ec_store.specs.Store.{history_of}
use Rattle.ec_numbered.specs.PropSet.{has_number}
use Rattle.ec_parts.specs.declared.tally.Tally.{Tally}
use Rattle.ec_parts.specs.StandFor.{StandFor, StandForBoth, View}
use Rattle.ec_revise.specs.declared.change.Change.{Change}
use Rattle.ec_sweep.specs.State.{IsUnderway}
use Rattle.ec_batch.specs.Limits.{IsWithinLimits}
use Rattle.ec_batch.specs.Walk.{AreLiveOrListed}

-- The parts stand for the new list, and the counts are those of the change to it; or memory ran out, and they stand for the
-- old list as before.
abbrev pub IsCarriedOut : {T : Type 0} → (T → ℤ) → Theory → List PlainEvent → List PlainEvent → View T → Tally → Result Seen NoMemory → Type 0
IsCarriedOut rank theory old new view tally (Ok seen) = StandFor rank theory new view tally × (seen ≡ change_counts theory old new)
IsCarriedOut rank theory old new view tally (Err none) = StandFor rank theory old view tally

-- a change is made: to each new list that it leads to the caches follow, and the counts are those of the change to it
abbrev pub IsMade : {T : Type 0} → (T → ℤ) → Theory → Change T → View T → View T → Seen → Type 0
IsMade rank theory change before after seen =
    (new : List PlainEvent) (tally : Tally) → IsUnderway rank theory new before tally change
    → StandForBoth rank theory new new after tally × (seen ≡ change_counts theory (history_of rank before.store.events) new)

-- whatever two lists the parts stand for, they still do
abbrev pub StandAsBefore : {T : Type 0} → (T → ℤ) → Theory → View T → View T → Type 0
StandAsBefore rank theory before after = (now soon : List PlainEvent) (tally : Tally) → StandForBoth rank theory now soon before tally → StandForBoth rank theory now soon after tally

-- A change leads to a list within the limits. The properties that may be live in the list of the store no longer, or not in the
-- list that it leads to, are listed: those that were not kept before, and those that may die.
pub record LeadsTo {T : Type 0} (rank : T → ℤ) (theory : Theory) (view : View T) (tally : Tally) (change : Change T) (fresh dying : List PropId) (soon : List PlainEvent) : Type 0 where
  pub underway : IsUnderway rank theory soon view tally change
  pub within : IsWithinLimits theory soon
  pub fresh_listed : AreLiveOrListed theory (history_of rank view.store.events) view.table (λ id. has_number id fresh)
  pub idle_listed : AreLiveOrListed theory soon view.table (λ id. has_number id fresh || has_number id dying)

-- there is a list to which a change leads
pub record Leads {T : Type 0} (rank : T → ℤ) (theory : Theory) (view : View T) (tally : Tally) (change : Change T) (fresh dying : List PropId) : Type 0 where
  pub soon : List PlainEvent
  pub to : LeadsTo rank theory view tally change fresh dying soon
