-- How rows of dependents stand to what they were, while the entries of one event are noted in them or taken out.
use Rattle.std.specs.Prelude.{◌≡◌, ◌≢◌, ℕ, ◌+◌, ◌<◌, ◌≤◌, Bool, false, ◌&&◌, ◌==◌, if◌then◌else◌, List, [], ℤ}
use Rattle.std.specs.Option.{option_to_list}
use Rattle.ec_context.specs.declared.entry.Entry.{Entry}
use Rattle.ec_entries.specs.Dependents.{Rows, AreInOrder, count_on, dependent_if, dependent_in, dependents_of, from_place, room_of}

-- each row is in order
abbrev pub AreAllInOrder : {T : Type 0} → (T → ℤ) → Rows T → Type 0
AreAllInOrder rank rows = (q : ℕ) → AreInOrder rank (dependents_of q rows)

-- from all other places than this one, the rows have what they had
abbrev pub KeepsOtherPlaces : {T : Type 0} → ℕ → ℕ → Rows T → Rows T → Type 0
KeepsOtherPlaces slot place old new = (q s p : ℕ) → ((slot == s) && (place == p)) ≡ false → from_place s p (dependents_of q new) ≡ from_place s p (dependents_of q old)

-- from all other slots than this one, the rows have what they had
abbrev pub KeepsOtherSlots : {T : Type 0} → ℕ → Rows T → Rows T → Type 0
KeepsOtherSlots slot old new = (q s p : ℕ) → s ≢ slot → from_place s p (dependents_of q new) ≡ from_place s p (dependents_of q old)

-- the entry at a place of a slot is noted in the rows of the properties that pass the test, and in no others
pub record IsNoted {T : Type 0} (rank : T → ℤ) (at : T) (slot place : ℕ) (on : ℕ → Bool) (old new : Rows T) : Type 0 where
  pub order : AreAllInOrder rank new
  pub here : (q : ℕ) → from_place slot place (dependents_of q new) ≡ option_to_list (dependent_if (on q) at slot place)
  pub others : KeepsOtherPlaces slot place old new
  pub room : (q : ℕ) → room_of q old ≤ room_of q new + (if on q then 1 else 0)

-- the entry at a place of a slot is taken out of the rows of the properties that pass the test
pub record IsTakenOut {T : Type 0} (rank : T → ℤ) (slot place : ℕ) (on : ℕ → Bool) (old new : Rows T) : Type 0 where
  pub order : AreAllInOrder rank new
  pub here : (q : ℕ) → from_place slot place (dependents_of q new) ≡ (if on q then [] else from_place slot place (dependents_of q old))
  pub others : KeepsOtherPlaces slot place old new
  pub room : (q : ℕ) → room_of q old ≤ room_of q new

-- the entries of the event in a slot are noted
pub record AreNoted {T : Type 0} (rank : T → ℤ) (at : T) (slot : ℕ) (list : List Entry) (old new : Rows T) : Type 0 where
  pub order : AreAllInOrder rank new
  pub here : (q place : ℕ) → from_place slot place (dependents_of q new) ≡ option_to_list (dependent_in q at slot list place)
  pub others : KeepsOtherSlots slot old new
  pub room : (q : ℕ) → room_of q old ≤ room_of q new + count_on q list

-- the first so many entries of the event in a slot are taken out
pub record AreTakenOut {T : Type 0} (rank : T → ℤ) (slot count : ℕ) (old new : Rows T) : Type 0 where
  pub order : AreAllInOrder rank new
  pub gone : (q place : ℕ) → place < count → from_place slot place (dependents_of q new) ≡ []
  pub left : (q place : ℕ) → count ≤ place → from_place slot place (dependents_of q new) ≡ from_place slot place (dependents_of q old)
  pub others : KeepsOtherSlots slot old new
  pub room : (q : ℕ) → room_of q old ≤ room_of q new
