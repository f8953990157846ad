-- No clash is at the time where the first that is not earlier is later, or there is none.
use Rattle.std.proofs.Common.{sym, ap, ◌∙◌, arith}
use Rattle.ec_lists.specs.Reserved.{Reserved}
use Rattle.ec_points.specs.Clashes.{has_clash}
use Rattle.ec_points.proofs.CalmTimes.{calm-end, calm-later}
use Rattle.ec_points.proofs.clashes.Clashes.is_calm.Goals as goal

pub returns-then-place-len : goal.returns-then-place-len
returns-then-place-len g c = λ yes n.
    ap (λ (list : Reserved _). has_clash g.T.Moment.rank n (g.T.Moment.rank c.args.at) list.items) (sym c.self.view_is)
    ∙ calm-end g.T.Moment.rank (g.T.Moment.rank c.args.at) c.self.inside.list.items c.self.invariant c.count_earlier-place.result c.count_earlier-place.ensures
    (omega (arith, c.if-place-len.true, c.len.ensures)) n

pub returns : goal.returns
returns g c = λ later n.
    ap (λ (list : Reserved _). has_clash g.T.Moment.rank n (g.T.Moment.rank c.args.at) list.items) (sym c.self.view_is)
    ∙ calm-later g.T.Moment.rank (g.T.Moment.rank c.args.at) c.self.inside.list.items c.self.invariant c.count_earlier-place.result c.count_earlier-place.ensures
    c.get.result.now c.get.ensures (sym c.is_earlier.ensures ∙ later) n
