-- The first event that is at a break decides.
use Rattle.std.proofs.Common.{map}
use Rattle.ec_terms.specs.Term.{ground_of}
use Rattle.ec_axioms.specs.Events.{event_of}
use Rattle.ec_axioms.proofs.NextBreak.{break_found, break_not_yet, break_absent}
use Rattle.ec_axioms.proofs.plain.ends_well.Goals as goal

pub returns-then-has_change : goal.returns-then-has_change
returns-then-has_change g c =
    break_found (event_of g.T.Moment.rank) c.from-event-items.result.now c.args.theory.now (map (event_of g.T.Moment.rank) c.args.events.now) (ground_of c.args.p.now)
    (g.T.Moment.rank c.args.at) c.loop-event.event-index c.event-item.result c.has_change.result c.has_change-then-has_change.result
    c.from-event-items.ensures c.loop-event-test.true c.event-item.is c.has_change.ensures c.if-has_change.true c.has_change-then-has_change.ensures c.loop-event.invariant

pub loop-event-preserved : goal.loop-event-preserved
loop-event-preserved g c =
    break_not_yet (event_of g.T.Moment.rank) c.from-event-items.result.now c.args.theory.now (map (event_of g.T.Moment.rank) c.args.events.now) (ground_of c.args.p.now)
    (g.T.Moment.rank c.args.at) c.loop-event.event-index c.event-item.result c.has_change.result
    c.loop-event-test.true c.event-item.is c.has_change.ensures c.if-has_change.false c.loop-event.invariant

pub returns : goal.returns
returns g c =
    break_absent (event_of g.T.Moment.rank) c.from-event-items.result.now c.args.theory.now (map (event_of g.T.Moment.rank) c.args.events.now) (ground_of c.args.p.now)
    (g.T.Moment.rank c.args.at) c.loop-event.event-index c.from-event-items.ensures c.loop-event-test.false c.loop-event.invariant
