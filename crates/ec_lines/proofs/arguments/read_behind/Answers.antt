-- What follows from the calls and the tests before it.
use Rattle.std.proofs.Common.{arith}
use Rattle.std.proofs.lemmas.Grind.{common_steps}
use Rattle.ec_commands.specs.Commands.{command_by}
use Rattle.ec_lines.proofs.arguments.read_behind.Goals as goal

pub returns-in-Assert-clause-command : goal.returns-in-Assert-clause-command
returns-in-Assert-clause-command c = grind (arith, common_steps)

pub returns-in-Intervals-clause-command : goal.returns-in-Intervals-clause-command
returns-in-Intervals-clause-command c = grind (arith, common_steps)

pub returns-in-Holds-clause-command : goal.returns-in-Holds-clause-command
returns-in-Holds-clause-command c = grind (arith, common_steps)

pub returns-in-Why-clause-command : goal.returns-in-Why-clause-command
returns-in-Why-clause-command c = grind (arith, common_steps)

pub returns-in-Through-clause-command : goal.returns-in-Through-clause-command
returns-in-Through-clause-command c = grind (arith, common_steps)

pub returns-in-At-clause-command : goal.returns-in-At-clause-command
returns-in-At-clause-command c = grind (arith, common_steps)

pub returns-in-Broken-clause-command : goal.returns-in-Broken-clause-command
returns-in-Broken-clause-command c = grind (arith, common_steps)

pub returns-in-Retract-clause-command : goal.returns-in-Retract-clause-command
returns-in-Retract-clause-command c = grind (arith, common_steps)

pub returns-in-Pairs-clause-command : goal.returns-in-Pairs-clause-command
returns-in-Pairs-clause-command c = grind (arith, common_steps)

pub returns-in-Related-clause-command : goal.returns-in-Related-clause-command
returns-in-Related-clause-command c = grind (arith, common_steps)

pub returns-in_default-clause-command : goal.returns-in_default-clause-command
unfolding command_by
returns-in_default-clause-command g c = grind (arith, common_steps)
