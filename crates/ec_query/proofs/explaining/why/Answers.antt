-- What is not kept is not live, and never began.
use Rattle.std.proofs.Common.{sym, arith}
use Rattle.std.proofs.lemmas.Grind.{common_steps}
use Rattle.ec_terms.specs.Term.{ground_of}
use Rattle.ec_parts.specs.StandFor.{view_of}
use Rattle.ec_query.proofs.ToldReasons.{reason_of-unkept}
use Rattle.ec_query.proofs.explaining.why.Goals as goal

pub returns-in-Some-clause-reason : goal.returns-in-Some-clause-reason
returns-in-Some-clause-reason g c = λ events stand.
    c.why_kept.ensures.reason events (ground_of c.args.p.now) (record { stand = stand; kept = c.in-Some.ensures.term })

pub returns-in-None-clause-reason : goal.returns-in-None-clause-reason
returns-in-None-clause-reason g c = λ events stand.
    reason_of-unkept g.T.Moment.rank c.args.parts.now.checked events (view_of c.args.parts.now) stand (ground_of c.args.p.now) (g.T.Moment.rank c.args.at) (sym c.in-None.ensures.number)

pub returns-in-None-clause-steps : goal.returns-in-None-clause-steps
returns-in-None-clause-steps c = grind (arith, common_steps)
