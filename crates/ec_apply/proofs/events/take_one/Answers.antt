use Rattle.std.proofs.Common.{◌∙◌}
use Rattle.ec_apply.proofs.TakenOut.{without_kept-slot}
use Rattle.ec_apply.proofs.events.take_one.Goals as goal

pub returns-clause-events : goal.returns-clause-events
returns-clause-events g c =
    c.remove-2.ensures.events ∙ without_kept-slot g.T.Moment.rank c.args.store.now.events c.len.ensures.history c.len.ensures.slots c.args.slot c.remove-2.result c.remove-2.ensures.event
