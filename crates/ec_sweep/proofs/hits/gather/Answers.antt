-- The dependents at the time are those that read the property there.
use Rattle.std.proofs.Common.{◌&&◌, ◌||◌, not, ap, ◌∙◌}
use Rattle.std.specs.List.{list_any}
use Rattle.ec_entries.specs.Dependents.{dependents_of, is_from}
use Rattle.ec_revise.specs.Change.{has_slot}
use Rattle.ec_sweep.specs.Hits.{has_hit}
use Rattle.ec_sweep.proofs.Gathering.{depends_at-any}
use Rattle.ec_sweep.proofs.Oks.{then_ok}
use Rattle.ec_sweep.proofs.hits.gather.Goals as goal

pub returns-in-Some-clause-hits : goal.returns-in-Some-clause-hits
returns-in-Some-clause-hits g c =
    then_ok c.gather_run.result
    (λ noted. λ slot place.
    noted slot place
    ∙ ap (λ b. has_hit slot place c.args.hits.now || (not (has_slot (record { 0 = slot }) c.args.removals.now) && b))
    (ap (list_any (is_from slot place)) c.in-Some.ensures.run
    ∙ depends_at-any g.T.Moment.rank c.args.p.0 c.args.entries.now.slots (dependents_of c.args.p.0 c.args.entries.now.rows) c.in-Some.ensures.dependents (g.T.Moment.rank c.args.at) slot place))
    c.gather_run.ensures.hits
