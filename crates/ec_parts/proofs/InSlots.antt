-- What holds of the entries in a slot, said of the list that is read there.
use Rattle.std.proofs.Common.{◌≡◌, List, Option, Some, None, IfSome, sym, subst}
use Rattle.std.specs.Prelude.{option_map}
use Rattle.ec_context.specs.declared.entry.Entry.{Entry}
use Rattle.ec_entries.specs.declared.event_entries.EventEntries.{EventEntries}

-- what is said of the list holds of what is kept
pub in_slot : {T : Type 0} (o : Option (EventEntries T)) (list : List Entry) (P : List Entry → Type 0) → option_map (λ kept. kept.list) o ≡ Some list → P list → IfSome o (λ kept. P kept.list)
in_slot None list P is here = cc
in_slot (Some kept) list P is here = let same : kept.list ≡ list = cc in subst P (sym same) here

-- and the other way
pub from_slot : {T : Type 0} (o : Option (EventEntries T)) (list : List Entry) (P : List Entry → Type 0) → option_map (λ kept. kept.list) o ≡ Some list → IfSome o (λ kept. P kept.list) → P list
from_slot None list P is here = cc
from_slot (Some kept) list P is here = let same : kept.list ≡ list = cc in subst P same here
