-- What follows from the calls and the tests before it.
use Rattle.std.proofs.Common.{arith}
use Rattle.std.proofs.lemmas.Grind.{common_steps}
use Rattle.ec_commands.specs.Commands.{command_by, name_value}
use Rattle.ec_lines.proofs.arguments.read_at.Goals as goal

pub returns-in_err-end-clause-names : goal.returns-in_err-end-clause-names
returns-in_err-end-clause-names c = grind (arith, common_steps)

pub returns-in_err-at-clause-names : goal.returns-in_err-at-clause-names
returns-in_err-at-clause-names c = grind (arith, common_steps)

pub returns-clause-command : goal.returns-clause-command
unfolding command_by name_value
returns-clause-command g c = grind (arith, common_steps)

pub returns-in_err-end-clause-command : goal.returns-in_err-end-clause-command
unfolding command_by name_value
returns-in_err-end-clause-command g c = grind (arith, common_steps)

pub returns-in_err-at-clause-command : goal.returns-in_err-at-clause-command
unfolding command_by name_value
returns-in_err-at-clause-command g c = grind (arith, common_steps)
