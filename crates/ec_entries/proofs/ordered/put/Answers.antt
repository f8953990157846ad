-- The place that the search found is that of the dependent.
use Rattle.std.proofs.Common.{sym, ap, subst, ◌∙◌}
use Rattle.ec_entries.specs.Dependents.{AreInOrder, from_place}
use Rattle.ec_entries.proofs.Orders.{AreInOrder-insert, from_place-insert}
use Rattle.ec_entries.proofs.ordered.put.Goals as goal

pub returns-clause-order : goal.returns-clause-order
returns-clause-order g c =
    subst (λ ds. AreInOrder g.T.Moment.rank ds) (sym c.insert.ensures.items)
    (AreInOrder-insert g.T.Moment.rank c.args.dependent c.args.list.now.items c.place_of-place.result c.requires.order c.place_of-place.ensures.cut c.requires.absent)

pub returns-clause-exact : goal.returns-clause-exact
returns-clause-exact g c slot place =
    ap (from_place slot place) c.insert.ensures.items
    ∙ from_place-insert g.T.Moment.rank c.args.dependent c.args.list.now.items c.place_of-place.result c.requires.order c.place_of-place.ensures.cut c.requires.absent slot place
