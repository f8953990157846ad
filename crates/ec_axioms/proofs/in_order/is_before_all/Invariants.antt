-- The event comes before each so far.
use Rattle.std.proofs.Common.{◌≡◌, true, take}
use Rattle.std.specs.List.{list_all}
use Rattle.ec_axioms.specs.Changes.{comes_before}
use Rattle.ec_axioms.specs.Events.{event_of}
use Rattle.ec_axioms.proofs.in_order.is_before_all.Given as goal

abbrev pub invariant-loop-other : goal.invariant-loop-other
invariant-loop-other g l =
    list_all (λ x. comes_before (event_of g.T.Moment.rank l.event) (event_of g.T.Moment.rank x)) (take l.other-index l.events) ≡ true
