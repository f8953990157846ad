-- Slots under keys, and what a search among them finds.
use Rattle.std.specs.Prelude.{ℕ, Bool, ◌==◌, ◌&&◌, ◌||◌, nat_lt, List, find, Option, option_map}
use Rattle.std.specs.List.Sorted.{IsPartitionedBy}
use Rattle.std.specs.declared.cmp.Ordering.{Ordering}
use Rattle.std.specs.Ordering.{is_lt, is_eq}
use Rattle.ec_store.specs.declared.slots.KeyedSlot.{KeyedSlot}

-- a slot stands in front of what is looked for, which has this key: by the key, and where keys are equal, by what stands there
abbrev pub is_in_front : ℕ → (ℕ → Ordering) → KeyedSlot → Bool
is_in_front key place member = nat_lt member.key key || (member.key == key && is_lt (place member.slot))

-- a slot is that of what is looked for
abbrev pub is_there : ℕ → (ℕ → Ordering) → KeyedSlot → Bool
is_there key place member = member.key == key && is_eq (place member.slot)

-- the slot of what is looked for, if there is one
abbrev pub slot_of : ℕ → (ℕ → Ordering) → List KeyedSlot → Option ℕ
slot_of key place slots = option_map (λ member. member.slot) (find (is_there key place) slots)

-- Keys ascend; what stands in front of what is looked for comes first, then it, and then what stands behind it.
pub record IsInOrder (key : ℕ) (place : ℕ → Ordering) (slots : List KeyedSlot) : Type 0 where
  pub keys : IsPartitionedBy (λ member. nat_lt member.key key) slots
  pub front : IsPartitionedBy (is_in_front key place) slots
  pub up_to : IsPartitionedBy (λ member. is_in_front key place member || is_there key place member) slots
