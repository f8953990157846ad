-- The turns up are those of the list that turn up.
use Rattle.std.proofs.Common.{rules, arith}
use Rattle.std.proofs.lemmas.Grind.{common_steps}
use Rattle.ec_sweep.proofs.look_hits.count.Goals as goal

pub returns-clause-on : goal.returns-clause-on
returns-clause-on c = search rules

pub returns-clause-seen : goal.returns-clause-seen
returns-clause-seen c = grind (arith, common_steps)

pub count-off-requires-clause-fits : goal.count-off-requires-clause-fits
count-off-requires-clause-fits c = grind (arith, common_steps)
