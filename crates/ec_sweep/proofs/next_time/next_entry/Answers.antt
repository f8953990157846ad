-- The first dependent behind the time.
use Rattle.ec_entries.specs.Dependents.{dependents_of}
use Rattle.ec_sweep.proofs.NextTimes.{first_read-is, first_read-least}
use Rattle.ec_sweep.proofs.next_time.next_entry.Goals as goal

pub returns-clause-some : goal.returns-clause-some
returns-clause-some g c =
    first_read-is g.T.Moment.rank (g.T.Moment.rank c.args.at) c.args.p.0 c.args.entries.now.slots (dependents_of c.args.p.0 c.args.entries.now.rows) c.next_dependent_after.ensures.dependents
    c.next_dependent_after.result c.next_dependent_after.ensures.next

pub returns-clause-least : goal.returns-clause-least
returns-clause-least g c =
    first_read-least g.T.Moment.rank (g.T.Moment.rank c.args.at) c.args.p.0 c.args.entries.now.slots (dependents_of c.args.p.0 c.args.entries.now.rows) c.next_dependent_after.ensures.dependents
    c.next_dependent_after.result c.next_dependent_after.ensures.next c.next_dependent_after.ensures.least
