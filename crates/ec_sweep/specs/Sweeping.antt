-- What holds while a sweep goes from instant to instant, and which instant it visits next.
use Rattle.std.specs.Prelude.{◌≡◌, ◌+◌, int_le, ◌||◌, ℕ, ℤ, Bool, List, [], Option, Some, None, IsTrue, length, filter, drop}
use Rattle.std.specs.List.{list_all, list_any}
use Rattle.std.specs.Ordering.{int_eq}
use Rattle.ec_terms.specs.declared.theory.Theory.{Theory}
use Rattle.ec_axioms.specs.declared.event.Event.{Event}
use Rattle.ec_axioms.specs.Calculus.{PlainEvent, Effect}
use Rattle.ec_numbered.specs.Due.{Due}
use Rattle.ec_store.specs.Store.{Kept, history_of}
use Rattle.ec_points.specs.Clashes.{is_behind}
use Rattle.ec_parts.specs.declared.tally.Tally.{Tally}
use Rattle.ec_parts.specs.StandFor.{View}
use Rattle.ec_rows.specs.Ordered.{is_ascending}
use Rattle.ec_revise.specs.declared.change.Change.{Change}
use Rattle.ec_revise.specs.declared.change.Removal.{Removal}
use Rattle.ec_revise.specs.Change.{removal_before}
use Rattle.ec_revise.specs.Sweep.{Swept}
use Rattle.ec_sweep.specs.declared.progress.Progress.{Progress}
use Rattle.ec_sweep.specs.declared.sweep.Sweep.{Sweep}
use Rattle.ec_sweep.specs.State.{AreDueOf, IsPlannedUpTo, IsProgress, IsUnderway, ShowsActivity, found_by, keeps}

-- ---- the next visit

-- something that is left is at t: something that is due, a removed event or an added one
abbrev pub has_visit_at : {T : Type 0} → (T → ℤ) → Change T → Progress → List (Due T) → ℤ → Bool
has_visit_at {T} rank change progress agenda t =
    list_any (λ due. int_eq (rank due.0) t) agenda || list_any (λ (removal : Removal T). int_eq (rank removal.at) t) (drop progress.removed change.remove)
    || list_any (λ (event : Event T). int_eq (rank event.at) t) (drop progress.added change.add)

-- Nothing that is left comes before t: nothing that is due, no removed event and no added one.
pub record NothingLeftBefore {T : Type 0} (rank : T → ℤ) (change : Change T) (progress : Progress) (agenda : List (Due T)) (t : ℤ) : Type 0 where
  pub due : IsTrue (list_all (λ (due : Due T). int_le t (rank due.0)) agenda)
  pub removed : IsTrue (list_all (λ (removal : Removal T). int_le t (rank removal.at)) (drop progress.removed change.remove))
  pub added : IsTrue (list_all (λ (event : Event T). int_le t (rank event.at)) (drop progress.added change.add))

-- nothing is left at all
pub record NothingLeft {T : Type 0} (change : Change T) (progress : Progress) (agenda : List (Due T)) : Type 0 where
  pub due : agenda ≡ []
  pub removed : drop progress.removed change.remove ≡ []
  pub added : drop progress.added change.add ≡ []

-- the lists of a change are in order of time
pub record IsInOrder {T : Type 0} (rank : T → ℤ) (change : Change T) : Type 0 where
  pub removed : IsTrue (is_ascending (removal_before rank) change.remove)
  pub added : IsTrue (is_ascending (λ (e f : Event T). int_le (rank e.at) (rank f.at)) change.add)

-- ---- the beginning

-- a sweep that found nothing yet
abbrev pub no_sweep : {T : Type 0} → Sweep T
no_sweep = record {
  last = None;
  dirty = [];
  agenda = [];
  progress = record { removed = 0; added = 0 };
  looked = record { bits = []; flips = []; seen = 0; on = 0; off = 0 };
  planned = record { marks = []; initiations = []; touched = [] };
}

-- ---- under way

-- A sweep has come up to r and with it, and what it keeps says what it has found.
pub record IsSweptUpTo {T : Type 0} (rank : T → ℤ) (theory : Theory) (new : List PlainEvent) (view : View T) (change : Change T) (sweep : Sweep T) (r : ℤ) : Type 0 where
  pub active : Effect → Bool
  pub swept : Swept theory (history_of rank view.store.events) new (keeps view.table) r (found_by rank view.table sweep.dirty sweep.agenda sweep.looked sweep.planned active)
  pub shows : ShowsActivity rank theory view change sweep.looked r active
  pub progress_is : IsProgress rank change r sweep.progress
  pub planned_up_to : IsPlannedUpTo rank theory (history_of rank view.store.events) new view sweep.planned r
  pub due_of : AreDueOf rank (history_of rank view.store.events) view.table sweep.agenda

-- r is the instant that was visited last, if there is one
abbrev pub IsLast : {T : Type 0} → (T → ℤ) → Option T → ℤ → Type 0
IsLast rank None r = Unit {0}
IsLast rank (Some at) r = r ≡ rank at

-- A sweep is under way: it has come up to the instant that it visited last.
pub record IsSweeping {T : Type 0} (rank : T → ℤ) (theory : Theory) (new : List PlainEvent) (view : View T) (change : Change T) (sweep : Sweep T) : Type 0 where
  pub r : ℤ
  pub last : IsLast rank sweep.last r
  pub found : IsSweptUpTo rank theory new view change sweep r

-- for every new list to which the change leads, the sweep is under way
abbrev pub IsSweepingTo : {T : Type 0} → (T → ℤ) → Theory → View T → Change T → Sweep T → Type 0
IsSweepingTo rank theory view change sweep = (new : List PlainEvent) (tally : Tally) → IsUnderway rank theory new view tally change → IsSweeping rank theory new view change sweep

-- how many of the store's events and of the added events stand behind the last visit
abbrev pub left_behind : {T : Type 0} → (T → ℤ) → List (Kept T) → List (Event T) → Option T → ℕ
left_behind rank events add last =
    length (filter (λ kept. is_behind rank last (rank kept.1.at)) events) + length (filter (λ event. is_behind rank last (rank event.at)) add)
