-- What follows from the calls and the tests before it.
use Rattle.std.proofs.Common.{arith}
use Rattle.std.proofs.lemmas.Grind.{common_steps}
use Rattle.ec_commands.specs.Commands.{command_by, name_value}
use Rattle.ec_lines.proofs.arguments.read_through.Goals as goal

pub returns-in_err-until-clause-names : goal.returns-in_err-until-clause-names
returns-in_err-until-clause-names c = grind (arith, common_steps)

pub returns-in_err-prop-clause-names : goal.returns-in_err-prop-clause-names
returns-in_err-prop-clause-names c = grind (arith, common_steps)

pub returns-in_err-from-clause-names : goal.returns-in_err-from-clause-names
returns-in_err-from-clause-names c = grind (arith, common_steps)

pub returns-clause-names : goal.returns-clause-names
returns-clause-names c = grind (arith, common_steps)

pub returns-in_err-next-clause-names : goal.returns-in_err-next-clause-names
returns-in_err-next-clause-names c = grind (arith, common_steps)

pub returns-in_err-last-clause-names : goal.returns-in_err-last-clause-names
returns-in_err-last-clause-names c = grind (arith, common_steps)

pub returns-in_err-next-clause-command : goal.returns-in_err-next-clause-command
unfolding command_by name_value
returns-in_err-next-clause-command g c = grind (arith, common_steps)

pub returns-in_err-until-clause-command : goal.returns-in_err-until-clause-command
unfolding command_by name_value
returns-in_err-until-clause-command g c = grind (arith, common_steps)

pub returns-in_err-prop-clause-command : goal.returns-in_err-prop-clause-command
unfolding command_by name_value
returns-in_err-prop-clause-command g c = grind (arith, common_steps)

pub returns-in_err-last-clause-command : goal.returns-in_err-last-clause-command
unfolding command_by name_value
returns-in_err-last-clause-command g c = grind (arith, common_steps)

pub returns-clause-command : goal.returns-clause-command
unfolding command_by name_value
returns-clause-command g c = grind (arith, common_steps)

pub returns-in_err-from-clause-command : goal.returns-in_err-from-clause-command
unfolding command_by name_value
returns-in_err-from-clause-command g c = grind (arith, common_steps)
