-- The clash goes out at its place.
use Rattle.std.proofs.Common.{◌&&◌, not, IsTrue, sym, ap, subst, ◌∙◌, arith}
use Rattle.std.proofs.lemmas.Grind.{common_steps}
use Rattle.ec_lists.specs.Reserved.{Reserved}
use Rattle.ec_points.specs.Clashes.{are_clashes, has_clash, is_clash_of}
use Rattle.ec_points.proofs.ClashLemmas.{are_clashes-without, has_clash-without}
use Rattle.ec_points.proofs.clashes.Clashes.take_out.Goals as goal

pub invariant_of-self : goal.invariant_of-self
invariant_of-self g c =
    subst (λ clashes. IsTrue (are_clashes g.T.Moment.rank clashes)) (sym (c.remove.ensures.items ∙ c.in-Ok.ensures.removed))
    (are_clashes-without g.T.Moment.rank (record { at = c.args.at; p = c.args.p }) c.self.inside.list.items c.self.invariant)

pub returns-in-Ok-clause-has : goal.returns-in-Ok-clause-has
returns-in-Ok-clause-has g c = λ n t.
    ap (has_clash g.T.Moment.rank n t) (c.remove.ensures.items ∙ c.in-Ok.ensures.removed)
    ∙ has_clash-without g.T.Moment.rank (record { at = c.args.at; p = c.args.p }) n t c.self.inside.list.items
    ∙ ap (λ (list : Reserved _). not (is_clash_of g.T.Moment.rank n t (record { at = c.args.at; p = c.args.p })) && has_clash g.T.Moment.rank n t list.items) c.self.view_is

pub returns-in-Ok-clause-spare : goal.returns-in-Ok-clause-spare
returns-in-Ok-clause-spare c = grind (arith, common_steps)
