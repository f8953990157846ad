-- Where something takes effect there is a first cause.
use Rattle.std.proofs.Common.{sym, arith}
use Rattle.std.proofs.lemmas.Grind.{common_steps}
use Rattle.ec_query.specs.Sought.{is_sought}
use Rattle.ec_query.proofs.FirstCauses.{first_cause-some}
use Rattle.ec_query.proofs.causes.find_cause.Goals as goal

pub unreachable-requires : goal.unreachable-requires
unreachable-requires g c =
    first_cause-some c.args.parts.now.checked c.requires.on.0 (is_sought c.args.parts.now.checked c.requires.on.1 c.args.sought) (g.T.Moment.rank c.args.at) c.requires.on.3
    (sym (c.in-None.ensures.cause c.requires.on.0 c.requires.on.1 c.requires.on.2))

pub returns-clause-steps : goal.returns-clause-steps
returns-clause-steps c = grind (arith, common_steps)

pub returns-clause-cause : goal.returns-clause-cause
returns-clause-cause c = grind (arith, common_steps)
