-- What follows from the calls and the tests before it.
use Rattle.std.proofs.Common.{arith}
use Rattle.std.proofs.lemmas.Grind.{common_steps}
use Rattle.ec_intervals.proofs.draft.Draft.add_ended.Goals as goal

pub add-requires-clause-first : goal.add-requires-clause-first
add-requires-clause-first c = grind (arith, common_steps)

pub returns-in-Some-clause-intervals : goal.returns-in-Some-clause-intervals
returns-in-Some-clause-intervals c = grind (arith, common_steps)
