-- The entries under the rules at the places so far are there.
use Rattle.std.proofs.Common.{◌≡◌, Some, take}
use Rattle.std.specs.List.{list_any}
use Rattle.ec_terms.specs.Term.{ground_of}
use Rattle.ec_context.specs.Entries.{is_named, shown_entries}
use Rattle.ec_context.specs.Widened.{AddsOnly, HasKept}
use Rattle.ec_context.proofs.RuleEntries.{entries_at}
use Rattle.ec_context.proofs.entries.gather.Given as goal

abbrev pub invariant-loop-place : goal.invariant-loop-place
invariant-loop-place l = record {
  kept : HasKept l.initial.props l.initial.added.items l.props l.added.items;
  shown : shown_entries l.props l.entries ≡ Some (entries_at l.fn.theory.rules (ground_of l.event) (take l.place-index l.places));
  added : AddsOnly (λ id. list_any (is_named id) l.entries) l.initial.added.items l.added.items;
}
