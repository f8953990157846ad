-- Two kept terms are the same where their numbers are.
use Rattle.ec_query.proofs.OnParts.{term_eq-numbers}
use Rattle.ec_query.proofs.sought.is_head.Goals as goal

pub returns : goal.returns
returns g c = λ events p q on there. term_eq-numbers c.args.parts.now.props c.args.head.0 c.args.id.0 q p c.len.ensures.order there on.kept
