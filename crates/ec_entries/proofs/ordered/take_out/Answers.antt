-- The dependent is there, so that the search finds it.
use Rattle.std.proofs.Common.{sym, ap, subst, ◌∙◌}
use Rattle.ec_entries.specs.Dependents.{AreInOrder, from_place}
use Rattle.ec_entries.proofs.Orders.{AreInOrder-remove, found, from_place-remove}
use Rattle.ec_entries.proofs.ordered.take_out.Goals as goal

pub remove-requires : goal.remove-requires
remove-requires g c =
    (found g.T.Moment.rank c.args.dependent.now c.args.list.now.items c.place_of-place.result c.requires.order c.place_of-place.ensures.cut c.requires.present).0

pub returns-clause-order : goal.returns-clause-order
returns-clause-order g c =
    subst (λ ds. AreInOrder g.T.Moment.rank ds) (sym c.remove.ensures.items)
    (AreInOrder-remove g.T.Moment.rank c.args.dependent.now c.args.list.now.items c.place_of-place.result c.requires.order c.place_of-place.ensures.cut)

pub returns-clause-exact : goal.returns-clause-exact
returns-clause-exact g c slot place =
    ap (from_place slot place) c.remove.ensures.items
    ∙ from_place-remove g.T.Moment.rank c.args.dependent.now c.args.list.now.items c.place_of-place.result c.requires.order c.place_of-place.ensures.cut c.requires.present slot place
