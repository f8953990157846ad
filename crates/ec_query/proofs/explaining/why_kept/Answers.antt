-- The reason is that from the last begin, if there is one.
use Rattle.std.proofs.Common.{sym, arith}
use Rattle.std.proofs.lemmas.Grind.{common_steps}
use Rattle.ec_query.proofs.ReasonCases.{reason_of-never}
use Rattle.ec_query.proofs.explaining.why_kept.Goals as goal

pub returns-in-Some-clause-reason : goal.returns-in-Some-clause-reason
returns-in-Some-clause-reason g c = λ events p on. c.why_begun.ensures.reason events p on (sym (c.in-Some.ensures events p on))

pub returns-in-None-clause-reason : goal.returns-in-None-clause-reason
returns-in-None-clause-reason g c = λ events p on.
    record { same = reason_of-never c.args.parts.now.checked events p (g.T.Moment.rank c.args.at) (sym (c.in-None.ensures events p on)); causes = tt }

pub returns-in-Some-clause-steps : goal.returns-in-Some-clause-steps
returns-in-Some-clause-steps c = grind (arith, common_steps)

pub returns-in-None-clause-steps : goal.returns-in-None-clause-steps
returns-in-None-clause-steps c = grind (arith, common_steps)
