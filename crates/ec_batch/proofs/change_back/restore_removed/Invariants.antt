-- The tables are those of the list of the store without the removed events that are left.
use Rattle.std.proofs.Common.{◌≡◌, ◌≤◌, ◌<◌, ◌+◌, ℕ, Some, length, get_or, drop}
use Rattle.ec_store.specs.Store.{history_of}
use Rattle.ec_parts.specs.StandFor.{StandForBoth, view_of}
use Rattle.ec_store.specs.Table.{term_at}
use Rattle.ec_revise.specs.declared.change.Removal.{Removal}
use Rattle.ec_batch.specs.Undo.{MayRestore, untouched}
use Rattle.ec_batch.specs.UndoChange.{removals_by_id}
use Rattle.ec_batch.proofs.change_back.restore_removed.Given as goal

abbrev pub invariant-loop-removal : goal.invariant-loop-removal
invariant-loop-removal g l = record {
  so_far : StandForBoth g.T.Moment.rank l.fn.parts.checked (history_of g.T.Moment.rank l.fn.parts.store.events)
      (untouched (drop l.removal-index (removals_by_id l.fn.parts.store.events l.removals)) (history_of g.T.Moment.rank l.fn.parts.store.events)) (view_of l.parts) l.tally;
  may : (removal : Removal g.row.T.Denot) → l.removal-index < length l.removals → removal ≡ get_or l.removals l.removal-index removal
      → MayRestore g.T.Moment.rank l.parts.checked (view_of l.parts) l.tally (Some removal.slot);
  terms : (id : ℕ) → term_at id l.parts.props ≡ term_at id l.fn.parts.props;
  rest : l.parts ≡ record l.fn.parts { props = l.parts.props };
  steps : l.steps ≤ l.fn.steps + l.removal-index;
}
