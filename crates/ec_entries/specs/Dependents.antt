-- What is kept of events by slot, and which entries depend on a property: those with a literal on it, in the order of
-- time, slot and place.
use Rattle.std.specs.Prelude.{◌≡◌, ℕ, Bool, ◌&&◌, ◌==◌, if◌then◌else◌, List, [], filter, count_by, Option, Some, None, IsTrue, option_and_then, slice_get, ℤ, int_lt}
use Rattle.std.specs.declared.cmp.Ordering.{Ordering}
use Rattle.std.specs.List.{list_any, sum_by}
use Rattle.std.specs.Option.{option_to_list}
use Rattle.std.specs.Ordering.{int_cmp, int_eq, nat_cmp, is_lt, ordering_then}
use Rattle.ec_context.specs.declared.entry.Entry.{Entry}
use Rattle.ec_context.specs.declared.entry.EntryLiteral.{EntryLiteral}
use Rattle.ec_context.specs.Entries.{is_of}
use Rattle.ec_entries.specs.declared.event_entries.EventEntries.{EventEntries}
use Rattle.ec_entries.specs.declared.event_entries.Dependent.{Dependent}
use Rattle.ec_numbered.specs.ByNumber.{kept_at}
use Rattle.ec_lists.specs.Reserved.{Reserved}
use Rattle.ec_rows.specs.Ordered.{is_ascending}

-- some literal is on the property of this number
abbrev pub any_on : ℕ → List EntryLiteral → Bool
any_on p literals = list_any (is_of p) literals

-- how many of the entries have a literal on the property
abbrev pub count_on : ℕ → List Entry → ℕ
count_on p entries = count_by (λ (entry : Entry). any_on p entry.literals) entries

-- and how many of the entries of several lists have
abbrev pub count_on_all : ℕ → List (List Entry) → ℕ
count_on_all p lists = sum_by (count_on p) lists

-- rows of dependents by the numbers of properties, each with its room
abbrev pub Rows : Type 0 → Type 0
Rows T = List (Option (Reserved (Dependent T)))

-- the members of a row, and how many more it takes without memory; where there is no row, none
abbrev pub members_of : {X : Type 0} → Option (Reserved X) → List X
members_of None = []
members_of (Some row) = row.items

abbrev pub spare_of : {X : Type 0} → Option (Reserved X) → ℕ
spare_of None = 0
spare_of (Some row) = row.spare

-- the dependents of a property, and for how many more there is room
abbrev pub dependents_of : {T : Type 0} → ℕ → Rows T → List (Dependent T)
dependents_of p rows = members_of (kept_at p rows)

abbrev pub room_of : {T : Type 0} → ℕ → Rows T → ℕ
room_of p rows = spare_of (kept_at p rows)

-- what is kept by slot, and the rows of dependents
pub record Entered (T : Type 0) : Type 0 where
  pub slots : List (Option (EventEntries T))
  pub rows : Rows T

-- ---- which entries depend on a property

-- the dependent that an entry makes, where it has a literal on the property
abbrev pub dependent_if : {T : Type 0} → Bool → T → ℕ → ℕ → Option (Dependent T)
dependent_if on at slot place = if on then Some (record { at = at; slot = record { 0 = slot }; place = place }) else None

-- the dependent that the entry at a place of a list makes on a property, if it makes one
abbrev pub dependent_in : {T : Type 0} → ℕ → T → ℕ → List Entry → ℕ → Option (Dependent T)
dependent_in p at slot list place = option_and_then (λ (entry : Entry). dependent_if (any_on p entry.literals) at slot place) (slice_get list place)

-- the dependent that the entry at a place of the event in a slot makes on a property, if it makes one
abbrev pub dependent_at : {T : Type 0} → ℕ → List (Option (EventEntries T)) → ℕ → ℕ → Option (Dependent T)
dependent_at p slots slot place = option_and_then (λ kept. dependent_in p kept.at slot kept.list place) (kept_at slot slots)

-- the members that stand for the entry at a place of a slot
abbrev pub is_from : {T : Type 0} → ℕ → ℕ → Dependent T → Bool
is_from slot place dependent = (dependent.slot.0 == slot) && (dependent.place == place)

abbrev pub from_place : {T : Type 0} → ℕ → ℕ → List (Dependent T) → List (Dependent T)
from_place slot place dependents = filter (is_from slot place) dependents

-- dependents go by time, then by slot, then by place
abbrev pub dependent_cmp : {T : Type 0} → (T → ℤ) → Dependent T → Dependent T → Ordering
dependent_cmp rank a b = ordering_then (int_cmp (rank a.at) (rank b.at)) (ordering_then (nat_cmp a.slot.0 b.slot.0) (nat_cmp a.place b.place))

abbrev pub dependent_before : {T : Type 0} → (T → ℤ) → Dependent T → Dependent T → Bool
dependent_before rank a b = is_lt (dependent_cmp rank a b)

abbrev pub AreInOrder : {T : Type 0} → (T → ℤ) → List (Dependent T) → Type 0
AreInOrder rank dependents = IsTrue (is_ascending (dependent_before rank) dependents)

-- these are the dependents of a property: in order, and from each place of each slot the one that the entry there
-- makes, or none
pub record AreDependents {T : Type 0} (rank : T → ℤ) (p : ℕ) (slots : List (Option (EventEntries T))) (dependents : List (Dependent T)) : Type 0 where
  pub order : AreInOrder rank dependents
  pub exact : (slot place : ℕ) → from_place slot place dependents ≡ option_to_list (dependent_at p slots slot place)

-- the dependents after a time, and those at it
abbrev pub dependents_after : {T : Type 0} → (T → ℤ) → ℤ → List (Dependent T) → List (Dependent T)
dependents_after rank t dependents = filter (λ dependent. int_lt t (rank dependent.at)) dependents

abbrev pub dependents_at : {T : Type 0} → (T → ℤ) → ℤ → List (Dependent T) → List (Dependent T)
dependents_at rank t dependents = filter (λ dependent. int_eq (rank dependent.at) t) dependents
