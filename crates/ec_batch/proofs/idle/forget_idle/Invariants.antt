use Rattle.std.proofs.Common.{◌≡◌, ℕ, Some, List, take, IsTrue}
use Rattle.ec_terms.specs.declared.ground.Ground.{Ground}
use Rattle.ec_axioms.specs.Calculus.{PlainEvent}
use Rattle.ec_numbered.specs.PropSet.{has_number}
use Rattle.ec_parts.specs.declared.tally.Tally.{Tally}
use Rattle.ec_parts.specs.StandFor.{StandForBoth, view_of}
use Rattle.ec_store.specs.Table.{mentions_at, term_at}
use Rattle.ec_batch.specs.Idle.{StandForSome}
use Rattle.ec_batch.proofs.idle.forget_idle.Given as goal

abbrev pub invariant-loop-p : goal.invariant-loop-p
invariant-loop-p g l = record {
  some : StandForSome g.T.Moment.rank l.parts.checked (view_of l.parts);
  both : (events : List PlainEvent) (tally : Tally) → StandForBoth g.T.Moment.rank l.fn.parts.checked events events (view_of l.fn.parts) tally
      → StandForBoth g.T.Moment.rank l.fn.parts.checked events events (view_of l.parts) tally;
  passed : (id : ℕ) → IsTrue (has_number id (take l.p-index l.list)) → mentions_at id l.parts.props ≡ Some 0 → ⊥;
  terms : (id : ℕ) (t : Ground) → term_at id l.parts.props ≡ Some t → term_at id l.fn.parts.props ≡ Some t;
  theory : l.parts.checked ≡ l.fn.parts.checked;
}
