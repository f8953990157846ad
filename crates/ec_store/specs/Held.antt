-- What stands under keyed slots: names in an order of their own, each with a key.
use Rattle.std.specs.Prelude.{◌≡◌, ℕ, Bool, List, map, filter_map, find, Option, Some, None, option_map, IsTrue}
use Rattle.std.specs.declared.cmp.Ordering.{Ordering}
use Rattle.std.specs.declared.cmp.Ordering.TheVariants.{Greater}
use Rattle.std.specs.Ordering.{is_lt, is_eq, nat_cmp, ordering_then}
use Rattle.ec_rows.specs.Ordered.{is_ascending}
use Rattle.ec_store.specs.declared.slots.KeyedSlot.{KeyedSlot}

-- the names under the slots of a list, each with its slot, from the names by slot
abbrev pub held_of : {M : Type 0} → (ℕ → Option M) → List KeyedSlot → List (ℕ × M)
held_of name_at slots = filter_map (λ member. option_map (λ name. (member.slot, name)) (name_at member.slot)) slots

-- the slot of a name, under its key
abbrev pub keyed : {M : Type 0} → (M → ℕ) → ℕ × M → KeyedSlot
keyed key held = record { key = key held.1; slot = held.0 }

-- names by their keys, and where keys are equal by their order
abbrev pub keyed_cmp : {M : Type 0} → (M → ℕ) → (M → M → Ordering) → M → M → Ordering
keyed_cmp key cmp a b = ordering_then (nat_cmp (key a) (key b)) (cmp a b)

-- a name stands before another
abbrev pub held_before : {M : Type 0} → (M → ℕ) → (M → M → Ordering) → ℕ × M → ℕ × M → Bool
held_before key cmp a b = is_lt (keyed_cmp key cmp a.1 b.1)

-- Each slot is that of a name, under its key, and they are in order.
pub record AreKeyed {M : Type 0} (key : M → ℕ) (cmp : M → M → Ordering) (name_at : ℕ → Option M) (slots : List KeyedSlot) : Type 0 where
  pub under : slots ≡ map (keyed key) (held_of name_at slots)
  pub ordered : IsTrue (is_ascending (held_before key cmp) (held_of name_at slots))

-- the slot under which a name stands, if it does
abbrev pub slot_under : {M : Type 0} → (M → M → Ordering) → (ℕ → Option M) → List KeyedSlot → M → Option ℕ
slot_under cmp name_at slots sought = option_map (λ held. held.0) (find (λ held. is_eq (cmp held.1 sought)) (held_of name_at slots))

-- how what there may be under a slot stands to a name
abbrev pub place_to : {M : Type 0} → (M → M → Ordering) → M → Option M → Ordering
place_to cmp sought None = Greater
place_to cmp sought (Some name) = cmp name sought
