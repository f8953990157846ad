-- The group of the number gets a reach that has those of its numbers.
use Rattle.std.proofs.Common.{arith}
use Rattle.std.proofs.lemmas.Grind.{common_steps}
use Rattle.ec_intervals.proofs.NearLemmas.{AreGrouped-set}
use Rattle.ec_intervals.proofs.reaches.Reaches.set.Goals as goal

pub invariant_of-self : goal.invariant_of-self
invariant_of-self g c =
    AreGrouped-set g.T.Moment.rank c.self.inside.groups c.set_reach-2.new.reaches c.self.inside.rows c.set_reach.new.reaches c.args.p.0 c.reach_of_group-joined.result c.self.invariant
    c.set_reach.ensures.others c.reach_of_group-joined.ensures c.set_reach-2.ensures.here c.set_reach-2.ensures.others

pub set_reach-requires-2 : goal.set_reach-requires-2
set_reach-requires-2 c = grind (arith, common_steps)

pub returns-clause-others : goal.returns-clause-others
returns-clause-others c = grind (arith, common_steps)

pub returns-clause-places : goal.returns-clause-places
returns-clause-places c = grind (arith, common_steps)
