-- What is kept in the slot are the effects of the event.
use Rattle.ec_axioms.specs.Calculus.{effects_of}
use Rattle.ec_axioms.specs.Events.{event_of}
use Rattle.ec_query.specs.Sought.{is_sought}
use Rattle.ec_query.proofs.ShownEffects.{effects-of, first_of_event-rule}
use Rattle.ec_query.proofs.causes.first_rule_in.Goals as goal

pub returns-clause-rule : goal.returns-clause-rule
returns-clause-rule g c = λ events p event on there.
    let parts = c.args.parts.now in
    let rank = g.T.Moment.rank in
    first_of_event-rule parts.checked events (is_sought parts.checked p c.args.sought) (event_of rank event) c.first_rule.result
    (c.first_rule.ensures events p (effects_of parts.checked (event_of rank event)) on
    (effects-of rank parts.checked events parts.props parts.store parts.entries on.stand.both.caches.entries_of c.args.slot event there c.list-list.result.now c.active-active.result
    c.list-list.ensures.list c.active-active.ensures))
