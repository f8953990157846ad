-- What it is for a change of events, with the bits that were found, to lead from the list of a store to a new one.
use Rattle.std.specs.Prelude.{◌≡◌, ℤ, List}
use Rattle.ec_terms.specs.declared.theory.Theory.{Theory}
use Rattle.ec_axioms.specs.Calculus.{PlainEvent}
use Rattle.ec_store.specs.Table.{KeptProp}
use Rattle.ec_store.specs.Store.{Store, history_of}
use Rattle.ec_entries.specs.Dependents.{Entered}
use Rattle.ec_parts.specs.Caches.{AreEntriesOf}
use Rattle.ec_revise.specs.declared.change.Change.{Change}
use Rattle.ec_revise.specs.Change.{IsChange}
use Rattle.ec_delta.specs.declared.delta.Looked.{Looked}
use Rattle.ec_delta.specs.Ready.{AreBitsOf}

-- What is kept of events is that of the list of the store; the change leads from there to the new list, and the bits are those
-- of the new list.
pub record IsSwitch {T : Type 0} (rank : T → ℤ) (theory : Theory) (table : List KeptProp) (new : List PlainEvent) (store : Store T) (entered : Entered T) (change : Change T) (looked : Looked) : Type 0 where
  pub is_change : IsChange rank theory table store.events new change
  pub bits : AreBitsOf rank theory new store.events entered change looked
  pub entries : AreEntriesOf rank theory (history_of rank store.events) table store entered

-- they do so for some new list
pub record HasSwitch {T : Type 0} (rank : T → ℤ) (store : Store T) (entered : Entered T) (change : Change T) (looked : Looked) : Type 0 where
  pub theory : Theory
  pub table : List KeptProp
  pub new : List PlainEvent
  pub switch : IsSwitch rank theory table new store entered change looked

-- the store has the events of a new list, and what is kept of them is that of this list
pub record IsSwitched {T : Type 0} (rank : T → ℤ) (theory : Theory) (table : List KeptProp) (new : List PlainEvent) (store : Store T) (entered : Entered T) : Type 0 where
  pub events : history_of rank store.events ≡ new
  pub entries : AreEntriesOf rank theory new table store entered

-- a switch to a new list was made
abbrev pub IsSwitchMade : {T : Type 0} → (T → ℤ) → Store T → Entered T → Change T → Looked → Store T → Entered T → Type 0
IsSwitchMade rank store entered change looked after entered_after =
    (theory : Theory) (table : List KeptProp) (new : List PlainEvent) → IsSwitch rank theory table new store entered change looked → IsSwitched rank theory table new after entered_after
