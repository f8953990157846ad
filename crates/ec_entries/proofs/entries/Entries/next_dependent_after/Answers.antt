-- The first of a run of those after the time is the first of them, and no later than the others.
use Rattle.std.proofs.Common.{ap, length, sym, ◌∙◌, arith}
use Rattle.std.proofs.lemmas.Grind.{common_steps}
use Rattle.std.specs.Prelude.{slice_get}
use Rattle.ec_entries.specs.Dependents.{dependents_after, dependents_of}
use Rattle.ec_entries.proofs.Readings.{dependents_after-least, slice_get-front}
use Rattle.ec_entries.proofs.entries.Entries.next_dependent_after.Goals as goal

pub returns-clause-least : goal.returns-clause-least
returns-clause-least g c =
    let ds = dependents_of c.args.p.0 c.args.self.now.rows in
    dependents_after-least g.T.Moment.rank (g.T.Moment.rank c.args.at) ds c.dependents_after.ensures.dependents.order c.in_ok-dependent.dependent.now
    (slice_get-front (dependents_after g.T.Moment.rank (g.T.Moment.rank c.args.at) ds) (length c.dependents_after.result.now) c.in_ok-dependent.dependent.now
    (sym (ap (λ es. slice_get es 0) c.dependents_after.ensures.run) ∙ sym c.in_ok-dependent.ensures.value))

pub returns-clause-next : goal.returns-clause-next
returns-clause-next c = grind (arith, common_steps)

pub returns-in_err-dependent-clause-next : goal.returns-in_err-dependent-clause-next
returns-in_err-dependent-clause-next c = grind (arith, common_steps)

pub returns-in_err-dependent-clause-least : goal.returns-in_err-dependent-clause-least
returns-in_err-dependent-clause-least c = grind (arith, common_steps)
