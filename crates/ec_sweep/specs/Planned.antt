-- What a sweep has planned once it is through, apart from the room for it; and parts that differ in their room alone.
use Rattle.std.specs.Prelude.{◌≡◌, ℕ, ℤ, List}
use Rattle.ec_terms.specs.declared.theory.Theory.{Theory}
use Rattle.ec_axioms.specs.Calculus.{PlainEvent}
use Rattle.ec_axioms.specs.Changes.{change_counts}
use Rattle.ec_entries.specs.Dependents.{dependents_of}
use Rattle.ec_store.specs.Store.{history_of}
use Rattle.ec_intervals.specs.Table.{members_at}
use Rattle.ec_numbered.specs.ByNumber.{kept_at}
use Rattle.ec_parts.specs.StandFor.{View}
use Rattle.ec_points.specs.Table.{marks_at}
use Rattle.ec_revise.specs.declared.change.Change.{Change}
use Rattle.ec_revise.specs.Change.{IsChange}
use Rattle.ec_delta.specs.declared.delta.Looked.{Looked}
use Rattle.ec_delta.specs.declared.delta.Planned.{Planned}
use Rattle.ec_delta.specs.Ready.{AreBitsOf, AreMarksPlanned, AreWindows, KeepsWhatIsUnmoved}

-- What was found of entries, and what is planned of marks, is what makes the caches of the store's list those of a new one.
pub record IsPlanned {T : Type 0} (rank : T → ℤ) (theory : Theory) (new : List PlainEvent) (view : View T) (change : Change T) (looked : Looked) (planned : Planned T) : Type 0 where
  pub change_is : IsChange rank theory view.table view.store.events new change
  pub bits : AreBitsOf rank theory new view.store.events view.entries change looked
  pub marks : AreMarksPlanned rank theory (history_of rank view.store.events) new view.table planned
  pub windows : AreWindows rank view planned
  pub unmoved : KeepsWhatIsUnmoved theory (history_of rank view.store.events) new view.table planned
  pub seen : looked.seen ≡ (change_counts theory (history_of rank view.store.events) new).seen
  pub on : looked.on ≡ (change_counts theory (history_of rank view.store.events) new).on
  pub off : looked.off ≡ (change_counts theory (history_of rank view.store.events) new).off

-- Parts have the same events, entries, marks and intervals as before, and differ in their room alone.
pub record DifferInRoom {T : Type 0} (before after : View T) : Type 0 where
  pub events : after.store.events ≡ before.store.events
  pub table : after.table ≡ before.table
  pub neighbours : after.neighbours ≡ before.neighbours
  pub slots : (slot : ℕ) → kept_at slot after.entries.slots ≡ kept_at slot before.entries.slots
  pub dependents : (q : ℕ) → dependents_of q after.entries.rows ≡ dependents_of q before.entries.rows
  pub marks : (n : ℕ) → marks_at n after.points ≡ marks_at n before.points
  pub initials : after.points.initials ≡ before.points.initials
  pub initiations : (n : ℕ) → marks_at n after.initiations ≡ marks_at n before.initiations
  pub intervals : (n : ℕ) → members_at n after.intervals ≡ members_at n before.intervals
