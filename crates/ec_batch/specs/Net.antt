-- What a batch of updates has put under identities, and what that says of the list to come.
use Rattle.std.specs.Prelude.{ℕ, Bool, List, Option, Some, None, is_some, nat_eq}
use Rattle.std.specs.Cmp.Lexicographic.{pointwise}
use Rattle.indexmap.specs.IndexMap.{IndexMap, get}
use Rattle.ec_terms.specs.declared.ids.Slot.{Slot}
use Rattle.ec_batch.specs.declared.net.Net.{Net}

-- what stands under an identity, if a batch touched it
abbrev pub net_in : {T S : Type 0} → List ℕ → IndexMap (List ℕ) (Net T) S → Option (Net T)
net_in id nets = get (pointwise nat_eq) nets id

-- whether an event has an identity, by what stands under it and by the slot that has it in the store
abbrev pub is_present_by : {T : Type 0} → Option (Net T) → Option Slot → Bool
is_present_by None slot = is_some slot
is_present_by (Some net) slot = is_some net.new

-- the slot of an identity in the store, as it was found before or is found now
abbrev pub old_slot_by : {T : Type 0} → Option (Net T) → Option Slot → Option Slot
old_slot_by None slot = slot
old_slot_by (Some net) slot = net.old
