-- A dependent more in the row of its property.
use Rattle.std.proofs.Common.{arith}
use Rattle.std.proofs.lemmas.Grind.{common_steps}
use Rattle.ec_entries.proofs.noting.note.Goals as goal

pub put-requires-clause-order : goal.put-requires-clause-order
put-requires-clause-order g c = grind (arith, common_steps)

pub put-requires-clause-absent : goal.put-requires-clause-absent
put-requires-clause-absent g c = grind (arith, common_steps)

pub put-requires-clause-room : goal.put-requires-clause-room
put-requires-clause-room g c = grind (arith, common_steps)

pub returns-in-Some-clause-order : goal.returns-in-Some-clause-order
returns-in-Some-clause-order g c = grind (arith, common_steps)

pub returns-in-Some-clause-exact : goal.returns-in-Some-clause-exact
returns-in-Some-clause-exact g c = grind (arith, common_steps)

pub returns-in-Some-clause-others : goal.returns-in-Some-clause-others
returns-in-Some-clause-others g c = grind (arith, common_steps)

pub returns-in-Some-clause-spare : goal.returns-in-Some-clause-spare
returns-in-Some-clause-spare g c = grind (arith, common_steps)

pub returns-in_default-clause-order : goal.returns-in_default-clause-order
returns-in_default-clause-order g c = grind (arith, common_steps)

pub returns-in_default-clause-exact : goal.returns-in_default-clause-exact
returns-in_default-clause-exact g c = grind (arith, common_steps)

pub returns-in_default-clause-others : goal.returns-in_default-clause-others
returns-in_default-clause-others g c = grind (arith, common_steps)

pub returns-in_default-clause-spare : goal.returns-in_default-clause-spare
returns-in_default-clause-spare g c = grind (arith, common_steps)
