-- The literals so far are filled in.
use Rattle.std.proofs.Common.{◌≡◌, Some, map, take}
use Rattle.std.specs.List.{list_any}
use Rattle.ec_terms.specs.Binding.{values_of}
use Rattle.ec_terms.specs.Domain.{ground_literal_of}
use Rattle.ec_context.specs.Entries.{is_of, shown_literals}
use Rattle.ec_context.specs.Widened.{AddsOnly, HasKept}
use Rattle.ec_context.proofs.entries.literals_of.Given as goal

abbrev pub invariant-loop-literal : goal.invariant-loop-literal
invariant-loop-literal l = record {
  kept : HasKept l.initial.props l.initial.added.items l.props l.added.items;
  shown : shown_literals l.props l.literals ≡ Some (map (ground_literal_of (values_of l.binding)) (take l.literal-index l.literal-items));
  added : AddsOnly (λ id. list_any (is_of id) l.literals) l.initial.added.items l.added.items;
}
