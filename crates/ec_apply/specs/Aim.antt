-- What it is for a delta to be ready for some list of events to come, and what it is to make it.
use Rattle.std.specs.Prelude.{◌≡◌, ℤ, List}
use Rattle.ec_terms.specs.declared.theory.Theory.{Theory}
use Rattle.ec_axioms.specs.declared.event.Seen.{Seen}
use Rattle.ec_axioms.specs.Calculus.{PlainEvent}
use Rattle.ec_axioms.specs.Changes.{change_counts}
use Rattle.ec_store.specs.Store.{history_of}
use Rattle.ec_parts.specs.declared.tally.Tally.{Tally}
use Rattle.ec_parts.specs.StandFor.{View, StandForBoth}
use Rattle.ec_delta.specs.declared.delta.Delta.{Delta}
use Rattle.ec_delta.specs.Ready.{IsReady}

-- The caches stand for the list of the store and the tables for a list to come, and the delta is the change from one to the other.
pub record IsAimed {T : Type 0} (rank : T → ℤ) (theory : Theory) (view : View T) (delta : Delta T) : Type 0 where
  pub new : List PlainEvent
  pub tally : Tally
  pub stands : StandForBoth rank theory (history_of rank view.store.events) new view tally
  pub ready : IsReady rank theory new view delta

-- the parts stand for each list to come for which the delta was ready
abbrev pub StandForNew : {T : Type 0} → (T → ℤ) → Theory → View T → Delta T → View T → Type 0
StandForNew rank theory before delta after =
    (new : List PlainEvent) (tally : Tally) → StandForBoth rank theory (history_of rank before.store.events) new before tally → IsReady rank theory new before delta
    → StandForBoth rank theory new new after tally

-- and the counts are those of the change to that list
abbrev pub AreCountsOf : {T : Type 0} → (T → ℤ) → Theory → View T → Delta T → Seen → Type 0
AreCountsOf rank theory before delta counts =
    (new : List PlainEvent) (tally : Tally) → StandForBoth rank theory (history_of rank before.store.events) new before tally → IsReady rank theory new before delta
    → counts ≡ change_counts theory (history_of rank before.store.events) new
