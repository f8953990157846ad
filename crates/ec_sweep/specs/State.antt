-- What a sweep keeps while it runs, and what it has found by that: numbers of properties and slots here, terms and events there.
use Rattle.std.specs.Prelude.{◌≡◌, ◌≤◌, ◌≤ℤ◌, ◌<ℤ◌, ℕ, ℤ, ◌==◌, Bool, false, List, Option, Some, None, int_le, filter, length, slice_get, option_and_then, option_map, is_some, unwrap_or, IsTrue, IsSome, IsFalse}
use Rattle.std.specs.List.{All, list_any}
use Rattle.std.specs.Map.{lookup}
use Rattle.std.specs.Option.{option_map_or}
use Rattle.std.specs.Ordering.{int_eq}
use Rattle.ec_terms.specs.declared.ids.Slot.{Slot}
use Rattle.ec_terms.specs.declared.ground.Ground.{Ground}
use Rattle.ec_terms.specs.declared.theory.Theory.{Theory}
use Rattle.ec_axioms.specs.declared.event.Event.{Event}
use Rattle.ec_axioms.specs.declared.limits.TheConstants.{MOST_MENTIONS}
use Rattle.ec_axioms.specs.Calculus.{PlainEvent, Effect, effects_of}
use Rattle.ec_axioms.specs.Events.{event_of}
use Rattle.ec_axioms.specs.Links.{mentions_of}
use Rattle.ec_numbered.specs.Due.{Due, has_due}
use Rattle.ec_store.specs.Table.{KeptProp, prop_at, prop_of, term_at}
use Rattle.ec_rows.specs.PlainMarks.{plain_mark}
use Rattle.ec_store.specs.Store.{event_at, history_of}
use Rattle.ec_numbered.specs.ByNumber.{kept_at}
use Rattle.ec_points.specs.Changes.{Change as MarkChange, change_at, has_change}
use Rattle.ec_points.specs.Table.{PointTable, is_current_at}
use Rattle.ec_parts.specs.declared.tally.Tally.{Tally}
use Rattle.ec_parts.specs.Activity.{is_bit_set}
use Rattle.ec_parts.specs.StandFor.{View, StandForBoth}
use Rattle.ec_revise.specs.declared.change.Change.{Change}
use Rattle.ec_revise.specs.declared.change.Removal.{Removal}
use Rattle.ec_revise.specs.Change.{IsChange, has_slot}
use Rattle.ec_revise.specs.Sweep.{Found}
use Rattle.ec_delta.specs.declared.delta.Looked.{Looked}
use Rattle.ec_delta.specs.declared.delta.Planned.{Planned}
use Rattle.ec_delta.specs.declared.flips.Flip.{Flip}
use Rattle.ec_delta.specs.declared.touches.Touched.{Touched}
use Rattle.ec_delta.specs.Looked.{active_found, are_apart}
use Rattle.ec_delta.specs.Ready.{AreWindows, initiation_at, mark_made}
use Rattle.ec_delta.specs.Touched.{matters_at, touched_at}
use Rattle.ec_sweep.specs.declared.progress.Progress.{Progress}

-- ---- dirty properties

-- properties by their numbers, each with its currency in the new list, if it is dirty
abbrev pub DirtyRows : Type 0
DirtyRows = List (ℕ × Option Bool)

-- the new currency of the property of a number, if it is dirty
abbrev pub dirty_at : ℕ → DirtyRows → Option Bool
dirty_at n rows = option_and_then (λ current. current) (lookup (λ k. n == k) rows)

-- the currency in the new list at the instant of a visit: that of a dirty property, and else the old one
abbrev pub is_current_over : {T : Type 0} → (T → ℤ) → PointTable T → DirtyRows → ℕ → ℤ → Bool
is_current_over rank points rows n t = unwrap_or (dirty_at n rows) (is_current_at rank points n t)

-- ---- what is found

-- the table keeps a term
abbrev pub keeps : List KeptProp → Ground → Bool
keeps table p = is_some (prop_of p table)

-- what a sweep has found, by terms: of each kept property what stands under its number; which entries are active is said apart
abbrev pub found_by : {T : Type 0} → (T → ℤ) → List KeptProp → DirtyRows → List (Due T) → Looked → Planned T → (Effect → Bool) → Found
found_by rank table dirty agenda looked planned active = record {
  dirty = λ p. option_and_then (λ id. dirty_at id dirty) (prop_of p table);
  planned = λ p t. option_and_then (λ id. option_map (λ change. plain_mark rank change.1) (change_at rank id t planned.marks)) (prop_of p table);
  active = active;
  matters = λ p. option_map_or (λ id. matters_at id planned.touched) (prop_of p table) false;
  agenda = λ t p. option_map_or (λ id. has_due rank t id agenda) (prop_of p table) false;
  seen = looked.seen;
  on = looked.on;
  off = looked.off;
}

-- ---- between two lists

-- The parts stand for the list of their store and, in their tables, for a new list; the change is the one between the two; and
-- both lists have no more mentions than there may be.
pub record IsUnderway {T : Type 0} (rank : T → ℤ) (theory : Theory) (new : List PlainEvent) (view : View T) (tally : Tally) (change : Change T) : Type 0 where
  pub both : StandForBoth rank theory (history_of rank view.store.events) new view tally
  pub change_is : IsChange rank theory view.table view.store.events new change
  pub few_old : length (mentions_of theory (history_of rank view.store.events)) ≤ MOST_MENTIONS
  pub few_new : length (mentions_of theory new) ≤ MOST_MENTIONS

-- how many of the removed events, and how many of the added ones, are at r or before
pub record IsProgress {T : Type 0} (rank : T → ℤ) (change : Change T) (r : ℤ) (progress : Progress) : Type 0 where
  pub removed_by : progress.removed ≡ length (filter (λ (removal : Removal T). int_le (rank removal.at) r) change.remove)
  pub added_by : progress.added ≡ length (filter (λ (event : Event T). int_le (rank event.at) r) change.add)

-- Which entries are active, as far as the sweep came: those of the store's events by the bits that are kept or the new ones, and
-- those of added events, up to r, by theirs. New bits are of events up to r, and of each at most once.
pub record ShowsActivity {T : Type 0} (rank : T → ℤ) (theory : Theory) (view : View T) (change : Change T) (looked : Looked) (r : ℤ) (active : Effect → Bool) : Type 0 where
  pub stored : (slot : Slot) (event : Event T) (k : ℕ) (effect : Effect) → event_at slot view.store.events ≡ Some event
      → slice_get (effects_of theory (event_of rank event)) k ≡ Some effect
      → active effect ≡ is_bit_set (active_found slot looked.flips (kept_at slot.0 view.entries.slots)) k
  pub added : (i word k : ℕ) (event : Event T) (effect : Effect) → slice_get change.add i ≡ Some event → slice_get looked.bits i ≡ Some word
      → slice_get (effects_of theory (event_of rank event)) k ≡ Some effect → active effect ≡ is_bit_set word k
  pub whole : (i word k : ℕ) (event : Event T) → slice_get change.add i ≡ Some event → slice_get looked.bits i ≡ Some word
      → slice_get (effects_of theory (event_of rank event)) k ≡ None → is_bit_set word k ≡ false
  pub stored_whole : (slot : Slot) (event : Event T) (k : ℕ) → event_at slot view.store.events ≡ Some event
      → slice_get (effects_of theory (event_of rank event)) k ≡ None → is_bit_set (active_found slot looked.flips (kept_at slot.0 view.entries.slots)) k ≡ false
  pub flipped : All (λ (flip : Flip). (event : Event T) × (event_at flip.slot view.store.events ≡ Some event) × (rank event.at ≤ℤ r)) looked.flips
  pub stayed : All (λ (flip : Flip). IsFalse (has_slot flip.slot change.remove)) looked.flips
  pub apart : IsTrue (are_apart looked.flips)
  pub bits : length looked.bits ≡ length (filter (λ (event : Event T). int_le (rank event.at) r) change.add)

-- What is planned up to r, besides the marks themselves: the initiations of each kept property up to r, none behind it; all of
-- kept properties; and windows, none of which goes beyond r.
pub record IsPlannedUpTo {T : Type 0} (rank : T → ℤ) (theory : Theory) (old new : List PlainEvent) (view : View T) (planned : Planned T) (r : ℤ) : Type 0 where
  pub initiations : (id : ℕ) (p : Ground) (t : ℤ) → term_at id view.table ≡ Some p → t ≤ℤ r
      → mark_made rank (change_at rank id t planned.initiations) (initiation_at theory old p t) ≡ initiation_at theory new p t
  pub not_yet : (id : ℕ) (t : ℤ) → r <ℤ t → IsFalse (has_change rank id t planned.initiations)
  pub none_yet : (id : ℕ) (t : ℤ) → r <ℤ t → IsFalse (has_change rank id t planned.marks)
  pub of_kept : All (λ (change : MarkChange T). IsSome (prop_at change.0.0 view.table)) planned.marks
  pub starts_of_kept : All (λ (change : MarkChange T). IsSome (prop_at change.0.0 view.table)) planned.initiations
  pub windows : AreWindows rank view planned
  pub so_far : (id : ℕ) (touched : Touched T) → touched_at id planned.touched ≡ Some touched → rank touched.until ≤ℤ r

-- what is due is kept, and an event of the old list stands at its time
abbrev pub AreDueOf : {T : Type 0} → (T → ℤ) → List PlainEvent → List KeptProp → List (Due T) → Type 0
AreDueOf {T} rank old table agenda = All (λ (due : Due T). IsSome (prop_at due.1.0 table) × IsTrue (list_any (λ e. int_eq e.rank (rank due.0)) old)) agenda
