use Rattle.std.proofs.Common.{◌≡◌, ◌++◌, ◌∷◌, [], ℕ, IsTrue, map, take}
use Rattle.ec_numbered.specs.PropSet.{has_number}
use Rattle.ec_context.specs.declared.entry.EntryLiteral.{EntryLiteral}
use Rattle.ec_parts.proofs.slots.note_entry.Given as goal

abbrev pub invariant-loop-literal : goal.invariant-loop-literal
invariant-loop-literal l = record {
  so_far : l.noted.items ≡ (l.fn.noted.items ++ l.fn.entry.head ∷ []) ++ map (λ (literal : EntryLiteral). literal.prop) (take l.literal-index l.literal-items);
  more : (id : ℕ) → IsTrue (has_number id l.fn.noted.items) → IsTrue (has_number id l.noted.items);
}
