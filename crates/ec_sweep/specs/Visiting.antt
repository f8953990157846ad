-- What is found at one instant: by the look at its entries, and by the settling of properties.
use Rattle.std.specs.Prelude.{◌≡◌, ◌+◌, ◌*◌, ◌+ℤ◌, pos, ℕ, ℤ, Bool, false, not, ◌&&◌, ◌||◌, List, flat_map, length, take}
use Rattle.std.specs.List.{list_any}
use Rattle.std.specs.Option.{option_map_or}
use Rattle.std.specs.Ordering.{int_eq}
use Rattle.ec_terms.specs.declared.ids.PropId.{PropId}
use Rattle.ec_terms.specs.declared.ground.Ground.{Ground}
use Rattle.ec_terms.specs.declared.theory.Theory.{Theory}
use Rattle.ec_terms.specs.Domain.{GroundEntry}
use Rattle.ec_axioms.specs.Calculus.{PlainEvent, Effect}
use Rattle.ec_axioms.specs.Changes.{change_counts}
use Rattle.ec_numbered.specs.Due.{Due, has_due}
use Rattle.ec_store.specs.Table.{KeptProp, prop_of}
use Rattle.ec_store.specs.Store.{history_of}
use Rattle.ec_numbered.specs.PropSet.{has_number}
use Rattle.ec_parts.specs.declared.tally.Tally.{Tally}
use Rattle.ec_parts.specs.StandFor.{View}
use Rattle.ec_revise.specs.declared.change.Change.{Change}
use Rattle.ec_revise.specs.declared.turn.Turn.{Turn}
use Rattle.ec_revise.specs.ShownTurns.{AreShown}
use Rattle.ec_revise.specs.Sweep.{Swept}
use Rattle.ec_revise.specs.TurnCounts.{counts_at}
use Rattle.ec_revise.specs.Visit.{LooksAt, PlainTurn, AreTurnsAt, Settles, downs, turns_between, ups}
use Rattle.ec_exclusive.specs.Added.{Added}
use Rattle.ec_delta.specs.declared.delta.Looked.{Looked}
use Rattle.ec_delta.specs.declared.delta.Planned.{Planned}
use Rattle.ec_sweep.specs.declared.progress.Progress.{Progress}
use Rattle.ec_sweep.specs.State.{AreDueOf, DirtyRows, IsPlannedUpTo, IsProgress, IsUnderway, ShowsActivity, found_by, keeps}

-- ---- what is due

-- the properties that the agenda has at an instant
abbrev pub AreDueAt : {T : Type 0} → (T → ℤ) → List (Due T) → ℤ → List PropId → Type 0
AreDueAt rank agenda t due = (n : ℕ) → has_number n due ≡ has_due rank t n agenda

-- the agenda without what was due at an instant
abbrev pub IsAgendaBehind : {T : Type 0} → (T → ℤ) → List (Due T) → ℤ → List (Due T) → Type 0
IsAgendaBehind rank agenda t behind = (n : ℕ) (u : ℤ) → has_due rank u n behind ≡ (has_due rank u n agenda && not (int_eq u t))

-- ---- the look at an instant

-- The sweep has come up to just before an instant, and all that the look at its entries needs is there.
pub record CanLook {T : Type 0} (rank : T → ℤ) (theory : Theory) (new : List PlainEvent) (view : View T) (tally : Tally) (change : Change T) (r t : ℤ)
    (dirty : DirtyRows) (agenda : List (Due T)) (due : List PropId) (looked : Looked) (planned : Planned T) (active : Effect → Bool) (progress : Progress) : Type 0 where
  pub underway : IsUnderway rank theory new view tally change
  pub next : t ≡ r +ℤ pos 1
  pub due_is : AreDueAt rank agenda t due
  pub swept : Swept theory (history_of rank view.store.events) new (keeps view.table) r (found_by rank view.table dirty agenda looked planned active)
  pub shows : ShowsActivity rank theory view change looked r active
  pub progress_is : IsProgress rank change r progress

-- there is some new list for which it has
pub record CanLookAt {T : Type 0} (rank : T → ℤ) (theory : Theory) (view : View T) (change : Change T) (t : ℤ) (dirty : DirtyRows) (due : List PropId) (looked : Looked) (progress : Progress) : Type 0 where
  pub new : List PlainEvent
  pub tally : Tally
  pub r : ℤ
  pub agenda : List (Due T)
  pub planned : Planned T
  pub active : Effect → Bool
  pub can : CanLook rank theory new view tally change r t dirty agenda due looked planned active progress

-- the steps that a sweep may have taken: two for each entry that saw a change, one for each removed event that it met, and one
-- for each entry of an added event that it met
abbrev pub steps_for : {T : Type 0} → Change T → Looked → Progress → ℕ
steps_for change looked progress = 2 * looked.seen + progress.removed + length (flat_map (λ entries. entries) (take progress.added change.entries))

-- the steps that a sweep takes at most, whether it ends or not: two for each entry that sees a change between the lists, one for
-- each removed event, and one for each entry of an added event
abbrev pub most_steps : {T : Type 0} → Theory → List PlainEvent → List PlainEvent → Change T → ℕ
most_steps theory old new change = 2 * (change_counts theory old new).seen + length (flat_map (λ entries. entries) change.entries) + length change.remove

-- turns are the same as others, in any order: of each kind and head as many are up, and as many down
pub record AreSameTurns (turns others : List PlainTurn) : Type 0 where
  pub ups_same : (wanted : GroundEntry → Bool) → ups wanted turns ≡ ups wanted others
  pub downs_same : (wanted : GroundEntry → Bool) → downs wanted turns ≡ downs wanted others

-- The entries at an instant are looked at: there is a list of those that see a change, and which entries are active from then
-- on; the bits show that up to the instant; and the turns are those of the visit, in some order, with the numbers of the table.
pub record HasLooked {T : Type 0} (rank : T → ℤ) (theory : Theory) (new : List PlainEvent) (view : View T) (change : Change T) (t : ℤ)
    (dirty : DirtyRows) (agenda : List (Due T)) (planned : Planned T) (before after : Looked) (active : Effect → Bool) (turns : List Turn) : Type 0 where
  pub seen : List Effect
  pub now_active : Effect → Bool
  pub looks : LooksAt theory (history_of rank view.store.events) new t seen (found_by rank view.table dirty agenda before planned active)
      (found_by rank view.table dirty agenda after planned now_active)
  pub shows : ShowsActivity rank theory view change after t now_active
  pub plains : List PlainTurn
  pub turned : AreShown view.table view.neighbours.rows turns plains
  pub in_any_order : AreSameTurns plains
      (turns_between theory (history_of rank view.store.events) new t seen (found_by rank view.table dirty agenda before planned active)
      (found_by rank view.table dirty agenda after planned now_active))

-- ---- the settling of properties

-- the properties that are settled at an instant: those that are due, and those for which some turn counts
abbrev pub settled_by : List KeptProp → List Added → List PropId → List Turn → Ground → Bool
settled_by table neighbours due turns p = option_map_or (λ n. has_number n due || list_any (counts_at neighbours (record { 0 = n })) turns) (prop_of p table) false

-- The entries of an instant were looked at, and all that the settling of properties needs is there. What was found of entries
-- is meant as it was before that.
pub record CanSettle {T : Type 0} (rank : T → ℤ) (theory : Theory) (new : List PlainEvent) (view : View T) (tally : Tally) (change : Change T) (r t : ℤ)
    (dirty : DirtyRows) (agenda later : List (Due T)) (due : List PropId) (turns : List Turn) (plains : List PlainTurn) (looked : Looked) (planned : Planned T) (active : Effect → Bool) : Type 0 where
  pub underway : IsUnderway rank theory new view tally change
  pub next : t ≡ r +ℤ pos 1
  pub due_is : AreDueAt rank agenda t due
  pub due_of : AreDueOf rank (history_of rank view.store.events) view.table agenda
  pub later_is : IsAgendaBehind rank agenda t later
  pub swept : Swept theory (history_of rank view.store.events) new (keeps view.table) r (found_by rank view.table dirty agenda looked planned active)
  pub planned_up_to : IsPlannedUpTo rank theory (history_of rank view.store.events) new view planned r
  pub turned : AreShown view.table view.neighbours.rows turns plains
  pub turns_at : AreTurnsAt theory (history_of rank view.store.events) new t plains

-- there is some new list for which it is
pub record CanSettleAt {T : Type 0} (rank : T → ℤ) (theory : Theory) (view : View T) (t : ℤ) (dirty : DirtyRows) (later : List (Due T)) (due : List PropId) (turns : List Turn) (planned : Planned T) : Type 0 where
  pub new : List PlainEvent
  pub tally : Tally
  pub change : Change T
  pub r : ℤ
  pub agenda : List (Due T)
  pub plains : List PlainTurn
  pub looked : Looked
  pub active : Effect → Bool
  pub can : CanSettle rank theory new view tally change r t dirty agenda later due turns plains looked planned active

-- Properties are settled at an instant, by what is due and what turned there: what is found of them is as a visit says, whatever
-- was found of entries; what is planned reaches up to the instant; and what is due from then on is kept.
pub record HasSettled {T : Type 0} (rank : T → ℤ) (theory : Theory) (new : List PlainEvent) (view : View T) (t : ℤ) (plains : List PlainTurn) (settled : Ground → Bool)
    (agenda later : List (Due T)) (dirty now_dirty : DirtyRows) (planned now_planned : Planned T) : Type 0 where
  pub settles : (looked : Looked) (active : Effect → Bool) → Settles theory (history_of rank view.store.events) (keeps view.table) t plains settled
      (found_by rank view.table dirty agenda looked planned active) (found_by rank view.table now_dirty later looked now_planned active)
  pub planned_up_to : IsPlannedUpTo rank theory (history_of rank view.store.events) new view now_planned t
  pub due_of : AreDueOf rank (history_of rank view.store.events) view.table later
