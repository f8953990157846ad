-- The first cause is among the events that are left, and so many of those at the time are left as were not read.
use Rattle.std.proofs.Common.{◌≡◌, ◌+◌, ◌-◌, ◌≤◌, true, List, drop, length}
use Rattle.std.specs.List.{list_all}
use Rattle.ec_terms.specs.declared.ground.Ground.{Ground}
use Rattle.ec_axioms.specs.Calculus.{PlainEvent, first_cause}
use Rattle.ec_axioms.specs.Plain.{events_at}
use Rattle.ec_store.specs.Store.{history_of}
use Rattle.ec_parts.specs.StandFor.{view_of}
use Rattle.ec_query.specs.Sought.{is_sought}
use Rattle.ec_query.specs.Standing.{AreOn}
use Rattle.ec_query.proofs.EventWalks.{is_from}
use Rattle.ec_query.proofs.FirstCauses.{first_among}
use Rattle.ec_query.proofs.causes.first_cause.Given as goal

abbrev pub invariant-loop-found : goal.invariant-loop-found
invariant-loop-found g l = record {
  cause : (events : List PlainEvent) (p : Ground) → AreOn g.T.Moment.rank l.parts.checked events (view_of l.parts) l.id.0 p
      → first_among l.parts.checked events (is_sought l.parts.checked p l.sought) (events_at (g.T.Moment.rank l.at) (history_of g.T.Moment.rank (drop l.cursor l.parts.store.events)))
      ≡ first_cause l.parts.checked events (is_sought l.parts.checked p l.sought) (g.T.Moment.rank l.at);
  left : l.steps + length (events_at (g.T.Moment.rank l.at) (history_of g.T.Moment.rank (drop l.cursor l.parts.store.events)))
      ≡ l.fn.steps + length (events_at (g.T.Moment.rank l.at) (history_of g.T.Moment.rank l.parts.store.events));
  from : list_all (is_from (g.T.Moment.rank l.at)) (history_of g.T.Moment.rank (drop l.cursor l.parts.store.events)) ≡ true;
  started : l.fn.steps ≤ l.steps;
  within : l.cursor ≤ length l.parts.store.events;
}

abbrev pub decreases-loop-found : goal.decreases-loop-found
decreases-loop-found g l = length l.parts.store.events - l.cursor
