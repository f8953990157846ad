-- Each number of the group comes in turn.
use Rattle.std.specs.Prelude.{option_copied}
use Rattle.ec_intervals.proofs.NearLemmas.{in_group, reach-next}
use Rattle.ec_intervals.proofs.reaches.reach_of_group.Goals as goal

pub loop-i-preserved : goal.loop-i-preserved
loop-i-preserved g c =
    reach-next g.T.Moment.rank c.loop-i.reach c.all_joined-reach.result (option_copied c.get.result) c.args.rows.now c.args.group c.loop-i.i
    c.loop-i.invariant c.all_joined-reach.ensures.one c.all_joined-reach.ensures.other c.get.ensures

pub returns : goal.returns
returns g c = λ n same. c.loop-i.invariant n same (in_group n c.args.group c.loop-i.i same c.loop-i-test.false)
