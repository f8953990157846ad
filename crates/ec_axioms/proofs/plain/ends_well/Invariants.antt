-- No event so far is at a break.
use Rattle.std.proofs.Common.{◌≡◌, false, map, take}
use Rattle.std.specs.List.{list_any}
use Rattle.ec_terms.specs.Term.{ground_of}
use Rattle.ec_axioms.specs.Calculus.{PlainEvent, has_break, is_current}
use Rattle.ec_axioms.specs.Events.{event_of}
use Rattle.ec_axioms.proofs.plain.ends_well.Given as goal

abbrev pub invariant-loop-event : goal.invariant-loop-event
invariant-loop-event g l =
    list_any
    (λ (e : PlainEvent). has_break l.theory (map (event_of g.T.Moment.rank) l.events) (is_current l.theory (map (event_of g.T.Moment.rank) l.events)) (ground_of l.p) e.rank)
    (take l.event-index (map (event_of g.T.Moment.rank) l.event-items)) ≡ false
