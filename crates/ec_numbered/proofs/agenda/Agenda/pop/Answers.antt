-- What follows the first is in order.
use Rattle.std.proofs.Common.{rules, ap, ◌∙◌, arith}
use Rattle.std.proofs.lemmas.Grind.{common_steps}
use Rattle.ec_numbered.specs.Due.{are_in_order}
use Rattle.ec_numbered.proofs.DueLemmas.{are_in_order-rest}
use Rattle.ec_numbered.proofs.agenda.Agenda.pop.Goals as goal

pub invariant_of-self : goal.invariant_of-self
invariant_of-self g c =
    ap (are_in_order g.T.Moment.rank) c.pop_front.ensures.rest ∙ are_in_order-rest g.T.Moment.rank c.self.inside.dues.items c.self.invariant

pub returns-clause-order : goal.returns-clause-order
returns-clause-order g c =
    ap (are_in_order g.T.Moment.rank) c.pop_front.ensures.rest ∙ are_in_order-rest g.T.Moment.rank c.self.inside.dues.items c.self.invariant

pub returns-clause-some : goal.returns-clause-some
returns-clause-some g c = search rules

pub returns-clause-same : goal.returns-clause-same
returns-clause-same c = grind (arith, common_steps)

pub returns-clause-none : goal.returns-clause-none
returns-clause-none c = grind (arith, common_steps)
