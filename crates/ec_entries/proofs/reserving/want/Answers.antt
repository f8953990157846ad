-- One more is wanted of the property, and of no other.
use Rattle.std.proofs.Common.{rules, arith}
use Rattle.std.proofs.lemmas.Grind.{common_steps}
use Rattle.ec_entries.proofs.reserving.want.Goals as goal

pub returns-clause-ok : goal.returns-clause-ok
returns-clause-ok g c = search rules

pub returns-clause-wider : goal.returns-clause-wider
returns-clause-wider c = grind (arith, common_steps)
