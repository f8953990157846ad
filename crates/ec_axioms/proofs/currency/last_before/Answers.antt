-- The last of the events before the time is at the last instant before it.
use Rattle.std.proofs.Common.{sym, arith}
use Rattle.std.proofs.lemmas.Grind.{common_steps}
use Rattle.ec_axioms.specs.Events.{event_of}
use Rattle.ec_axioms.proofs.LastInstant.{IsLastBefore-slice}
use Rattle.ec_axioms.proofs.currency.last_before.Goals as goal

pub returns-clause-last : goal.returns-clause-last
returns-clause-last g c =
    IsLastBefore-slice (event_of g.T.Moment.rank) c.args.events.now c.before-2.result.now (g.T.Moment.rank c.args.at) c.in_ok-event.event.now
    c.requires.ordered c.before-2.ensures (sym c.in_ok-event.ensures.value)

pub returns-in_err-event-clause-none : goal.returns-in_err-event-clause-none
returns-in_err-event-clause-none g c = grind (arith, common_steps)
