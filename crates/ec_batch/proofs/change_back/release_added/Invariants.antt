-- The tables are those of the list to come without the added events so far.
use Rattle.std.proofs.Common.{◌≡◌, ℕ, List, take}
use Rattle.ec_axioms.specs.Calculus.{PlainEvent}
use Rattle.ec_store.specs.Store.{history_of}
use Rattle.ec_parts.specs.StandFor.{StandForBoth, view_of}
use Rattle.ec_store.specs.Table.{term_at}
use Rattle.ec_batch.specs.Undo.{untouched}
use Rattle.ec_batch.specs.UndoChange.{IsLedTo, events_by_id}
use Rattle.ec_batch.proofs.change_back.release_added.Given as goal

abbrev pub invariant-loop-list : goal.invariant-loop-list
invariant-loop-list g l = record {
  so_far : (soon : List PlainEvent) → IsLedTo g.T.Moment.rank l.fn.parts.checked (view_of l.fn.parts) l.fn.tally l.change soon
      → StandForBoth g.T.Moment.rank l.fn.parts.checked (history_of g.T.Moment.rank l.fn.parts.store.events) (untouched (take l.list-index (events_by_id l.change.add)) soon) (view_of l.parts) l.tally;
  terms : (id : ℕ) → term_at id l.parts.props ≡ term_at id l.fn.parts.props;
  rest : l.parts ≡ record l.fn.parts { props = l.parts.props };
}
