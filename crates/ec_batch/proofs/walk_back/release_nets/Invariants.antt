use Rattle.std.proofs.Common.{◌≡◌, ℕ, List, Some, take}
use Rattle.std.specs.Prelude.{slice_get}
use Rattle.ec_axioms.specs.Calculus.{PlainEvent}
use Rattle.ec_store.specs.Store.{history_of}
use Rattle.ec_parts.specs.StandFor.{StandForBoth, view_of}
use Rattle.ec_store.specs.Table.{term_at}
use Rattle.ec_batch.specs.declared.net.Net.{Net}
use Rattle.ec_batch.specs.Net.{net_in}
use Rattle.ec_batch.specs.Undo.{LeadTo, MayRelease, untouched}
use Rattle.ec_batch.proofs.walk_back.release_nets.Given as goal

abbrev pub invariant-loop-i : goal.invariant-loop-i
invariant-loop-i g l = record {
  so_far : (soon : List PlainEvent) → LeadTo g.T.Moment.rank l.fn.parts.checked (view_of l.fn.parts) l.fn.tally (λ id. net_in id l.nets) soon
      → StandForBoth g.T.Moment.rank l.fn.parts.checked (history_of g.T.Moment.rank l.fn.parts.store.events) (untouched (take l.i l.nets.entries) soon) (view_of l.parts) l.tally;
  may : (k : List ℕ) (n : Net g.row.T.Denot) → Some (k, n) ≡ slice_get l.nets.entries l.i → net_in k l.nets ≡ Some n → MayRelease g.T.Moment.rank l.parts.checked (view_of l.parts) l.tally n;
  terms : (id : ℕ) → term_at id l.parts.props ≡ term_at id l.fn.parts.props;
  rest : l.parts ≡ record l.fn.parts { props = l.parts.props };
}
