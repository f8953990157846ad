-- What is known of clashes and their times follows from whether the mark is one.
use Rattle.std.proofs.Common.{rules, arith}
use Rattle.std.proofs.lemmas.Grind.{common_steps}
use Rattle.ec_points.proofs.noted.note.Goals as goal

pub returns-clause-has : goal.returns-clause-has
returns-clause-has g c = search rules

pub returns-then-clashes-clause-known : goal.returns-then-clashes-clause-known
returns-then-clashes-clause-known g c = search rules

pub returns-then-clashes-clause-spare : goal.returns-then-clashes-clause-spare
returns-then-clashes-clause-spare c = grind (arith, common_steps)

pub returns-clause-known : goal.returns-clause-known
returns-clause-known c = grind (arith, common_steps)

pub returns-then-is_calm-clause-has : goal.returns-then-is_calm-clause-has
returns-then-is_calm-clause-has c = grind (arith, common_steps)

pub put-requires : goal.put-requires
put-requires c = grind (arith, common_steps)

pub returns-then-clashes-clause-has : goal.returns-then-clashes-clause-has
returns-then-clashes-clause-has c = grind (arith, common_steps)
