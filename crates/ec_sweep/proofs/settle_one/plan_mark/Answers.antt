-- What is planned is what was pushed: the mark, and its initiations where they may break a property.
use Rattle.std.proofs.Common.{rules, arith}
use Rattle.std.proofs.lemmas.Grind.{common_steps}
use Rattle.ec_sweep.proofs.settle_one.plan_mark.Goals as goal

pub returns : goal.returns
returns g c = search rules

pub returns-then-not-settled : goal.returns-then-not-settled
returns-then-not-settled c = grind (arith, common_steps)
