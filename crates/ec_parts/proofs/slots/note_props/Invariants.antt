use Rattle.std.proofs.Common.{◌≡◌, ◌++◌, ℕ, IsTrue, take}
use Rattle.ec_numbered.specs.PropSet.{has_number}
use Rattle.ec_parts.specs.Mentions.{list_props}
use Rattle.ec_parts.proofs.slots.note_props.Given as goal

abbrev pub invariant-loop-entry : goal.invariant-loop-entry
invariant-loop-entry l = record {
  so_far : l.noted.items ≡ l.fn.noted.items ++ list_props (take l.entry-index l.entry-items);
  more : (id : ℕ) → IsTrue (has_number id l.fn.noted.items) → IsTrue (has_number id l.noted.items);
}
