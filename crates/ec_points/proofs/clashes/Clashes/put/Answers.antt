-- The clash goes in at its place.
use Rattle.std.proofs.Common.{◌||◌, ap, ◌∙◌, arith}
use Rattle.std.proofs.lemmas.Grind.{common_steps}
use Rattle.ec_lists.specs.Reserved.{Reserved}
use Rattle.ec_points.specs.Clashes.{has_clash, is_clash_of}
use Rattle.ec_points.proofs.ClashLemmas.{list_any-insert}
use Rattle.ec_points.proofs.clashes.Clashes.put.Goals as goal

pub returns-in-Err-clause-has : goal.returns-in-Err-clause-has
returns-in-Err-clause-has g c = λ n t.
    ap (has_clash g.T.Moment.rank n t) c.insert.ensures.items
    ∙ list_any-insert (is_clash_of g.T.Moment.rank n t) (record { at = c.args.at; p = c.args.p }) c.self.inside.list.items c.in-Err.place
    ∙ ap (λ (list : Reserved _). is_clash_of g.T.Moment.rank n t (record { at = c.args.at; p = c.args.p }) || has_clash g.T.Moment.rank n t list.items) c.self.view_is

pub returns-in-Err-clause-spare : goal.returns-in-Err-clause-spare
returns-in-Err-clause-spare c = grind (arith, common_steps)
