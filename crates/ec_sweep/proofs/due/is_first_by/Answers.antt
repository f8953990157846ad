-- The first is behind the time, and all others are behind the first.
use Rattle.std.proofs.Common.{sym, ◌∙◌, arith}
use Rattle.std.proofs.lemmas.Grind.{common_steps}
use Rattle.std.proofs.lemmas.Bool.{not-false}
use Rattle.ec_sweep.proofs.Dues.{has_due-before_time}
use Rattle.ec_sweep.proofs.due.is_first_by.Goals as goal

pub returns-in-Some-clause-none : goal.returns-in-Some-clause-none
returns-in-Some-clause-none g c = λ fails n.
    has_due-before_time g.T.Moment.rank (g.T.Moment.rank c.args.at) n c.args.agenda.now c.in-Some.first c.in-Some.ensures.some c.is_empty.ensures.order
    (sym c.is_before.ensures ∙ not-false _ fails)

pub returns-in-Some-clause-some : goal.returns-in-Some-clause-some
returns-in-Some-clause-some c = grind (arith, common_steps)
