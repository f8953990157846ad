-- Groups of properties, found by the bytes of a key: which numbers stand in them, and how they are kept under slots.
use Rattle.std.specs.Prelude.{ℕ, Bool, false, List, find, filter_map, Option, Some, None, option_map, Vec, bytes_eq}
use Rattle.std.specs.List.{list_any}
use Rattle.std.specs.Hash.FoldHasher.{initial, write, finish}
use Rattle.slab.specs.Slab.{Slab, get}
use Rattle.ec_terms.specs.declared.ids.PropId.{PropId}
use Rattle.ec_terms.specs.Term.{name_cmp}
use Rattle.ec_store.specs.Held.{AreKeyed, slot_under}
use Rattle.ec_store.specs.declared.slots.KeyedSlot.{KeyedSlot}
use Rattle.ec_numbered.specs.PropSet.{has_number, with_number, without_number}
use Rattle.ec_exclusive.specs.declared.group.Group.{Group}

-- ---- what stands in them

-- a group: its key and its members
pub record Grouped : Type 0 where
  pub key : List ℕ
  pub members : List PropId

-- a number stands in a group, if there is one
abbrev pub is_member : ℕ → Option Grouped → Bool
is_member n None = false
is_member n (Some group) = has_number n group.members

-- a number stands in the group of a key
abbrev pub in_group : List Grouped → List ℕ → ℕ → Bool
in_group groups key n = is_member n (find (λ group. bytes_eq group.key key) groups)

-- a text is one of these keys
abbrev pub is_among : {Z : Type 0} → List (Vec ℕ Z) → List ℕ → Bool
is_among keys text = list_any (λ k. bytes_eq k.items text) keys

-- ---- how they are kept

-- a group with a member more, and with one less
abbrev pub with_member : PropId → Grouped → Grouped
with_member p group = record { key = group.key; members = with_number p group.members }

abbrev pub without_member : PropId → Grouped → Grouped
without_member p group = record { key = group.key; members = without_number p group.members }

-- what a group shows
abbrev pub grouped : Group → Grouped
grouped group = record { key = group.key.items; members = group.members.items }

-- the group under a slot, if there is one
abbrev pub group_at : Slab Group → ℕ → Option Grouped
group_at records slot = option_map grouped (get records slot)

-- the key of the group under a slot, if there is one
abbrev pub key_at : (ℕ → Option Grouped) → ℕ → Option (List ℕ)
key_at at slot = option_map (λ group. group.key) (at slot)

-- the number by which a key is searched
unfoldable pub hash_of : List ℕ → ℕ
hash_of key = finish (write initial key)

-- the slot of the group of a key, if there is one
abbrev pub slot_by_key : (ℕ → Option Grouped) → List KeyedSlot → List ℕ → Option ℕ
slot_by_key at slots key = slot_under name_cmp (key_at at) slots key

-- the groups under slots
abbrev pub groups_of : (ℕ → Option Grouped) → List KeyedSlot → List Grouped
groups_of at slots = filter_map (λ (member : KeyedSlot). at member.slot) slots

-- the slots stand under the hashes of the keys, in order
abbrev pub AreFoundByKey : (ℕ → Option Grouped) → List KeyedSlot → Type 0
AreFoundByKey at slots = AreKeyed hash_of name_cmp (key_at at) slots
