-- Nothing is kept yet.
use Rattle.std.proofs.Common.{arith}
use Rattle.std.proofs.lemmas.Grind.{common_steps}
use Rattle.ec_entries.proofs.States.{AreDependents-none}
use Rattle.ec_entries.proofs.entries.Entries.new.Goals as goal

pub invariant_of-result : goal.invariant_of-result
invariant_of-result g c = AreDependents-none g.T.Moment.rank c.new.result.items c.new-2.result c.new.ensures.items c.new-2.ensures

pub returns-clause-rows : goal.returns-clause-rows
returns-clause-rows c = grind (arith, common_steps)
