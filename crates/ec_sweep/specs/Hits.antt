-- The entries that a visit looks at, by the slots of their events and their places there.
use Rattle.std.specs.Prelude.{◌≡◌, ℕ, ◌==◌, Bool, false, not, ◌&&◌, List, Option, ℤ, is_some}
use Rattle.std.specs.List.{list_any, IsDistinct}
use Rattle.std.specs.Option.{option_map_or}
use Rattle.std.specs.Ordering.{int_eq}
use Rattle.ec_terms.specs.declared.ids.PropId.{PropId}
use Rattle.ec_entries.specs.declared.event_entries.EventEntries.{EventEntries}
use Rattle.ec_entries.specs.Dependents.{dependent_at}
use Rattle.ec_revise.specs.declared.change.Removal.{Removal}
use Rattle.ec_revise.specs.Change.{has_slot}
use Rattle.ec_sweep.specs.declared.hits.Hit.{Hit}
use Rattle.ec_sweep.specs.State.{DirtyRows, dirty_at}

-- what is kept of events by slot
abbrev pub Slots : Type 0 → Type 0
Slots T = List (Option (EventEntries T))

-- a hit is the entry at a place of a slot
abbrev pub is_hit : ℕ → ℕ → Hit → Bool
is_hit slot place hit = (hit.slot.0 == slot) && (hit.place == place)

-- the entry at a place of a slot is one of these
abbrev pub has_hit : ℕ → ℕ → List Hit → Bool
has_hit slot place hits = list_any (is_hit slot place) hits

-- two hits are the same entry
abbrev pub same_hit : Hit → Hit → Bool
same_hit a b = (a.slot.0 == b.slot.0) && (a.place == b.place)

-- the entry at a place of a slot is of an event at t, and reads the property of a number
abbrev pub depends_at : {T : Type 0} → (T → ℤ) → Slots T → ℤ → ℕ → ℕ → ℕ → Bool
depends_at rank slots t slot place n = option_map_or (λ dependent. int_eq (rank dependent.at) t) (dependent_at n slots slot place) false

-- and it reads one that is due and dirty
abbrev pub depends_on_due : {T : Type 0} → (T → ℤ) → Slots T → ℤ → DirtyRows → List PropId → ℕ → ℕ → Bool
depends_on_due rank slots t dirty due slot place = list_any (λ (p : PropId). is_some (dirty_at p.0 dirty) && depends_at rank slots t slot place p.0) due

-- The hits at an instant: each entry of an event there that stays and reads a property that is due and dirty, once.
pub record AreHits {T : Type 0} (rank : T → ℤ) (slots : Slots T) (t : ℤ) (dirty : DirtyRows) (due : List PropId) (removals : List (Removal T)) (hits : List Hit) : Type 0 where
  pub once : IsDistinct same_hit hits
  pub hit : (slot place : ℕ) → has_hit slot place hits ≡ (not (has_slot (record { 0 = slot }) removals) && depends_on_due rank slots t dirty due slot place)
