-- What follows from the calls and the tests before it.
use Rattle.std.proofs.Common.{arith}
use Rattle.std.proofs.lemmas.Grind.{common_steps}
use Rattle.ec_commands.specs.Commands.{command_by, name_value}
use Rattle.ec_lines.proofs.arguments.read_assert.Goals as goal

pub returns-clause-names : goal.returns-clause-names
returns-clause-names c = grind (arith, common_steps)

pub returns-in_err-at-clause-names : goal.returns-in_err-at-clause-names
returns-in_err-at-clause-names c = grind (arith, common_steps)

pub returns-in_err-event-clause-names : goal.returns-in_err-event-clause-names
returns-in_err-event-clause-names c = grind (arith, common_steps)

pub returns-in_err-id-clause-names : goal.returns-in_err-id-clause-names
returns-in_err-id-clause-names c = grind (arith, common_steps)

pub returns-in_err-event-2-clause-names : goal.returns-in_err-event-2-clause-names
returns-in_err-event-2-clause-names c = grind (arith, common_steps)

pub returns-in_err-next-clause-names : goal.returns-in_err-next-clause-names
returns-in_err-next-clause-names c = grind (arith, common_steps)

pub returns-in_err-event-2-clause-command : goal.returns-in_err-event-2-clause-command
unfolding command_by name_value
returns-in_err-event-2-clause-command g c = grind (arith, common_steps)

pub returns-in_err-at-clause-command : goal.returns-in_err-at-clause-command
unfolding command_by name_value
returns-in_err-at-clause-command g c = grind (arith, common_steps)

pub returns-clause-command : goal.returns-clause-command
unfolding command_by name_value
returns-clause-command g c = grind (arith, common_steps)

pub returns-in_err-id-clause-command : goal.returns-in_err-id-clause-command
unfolding command_by name_value
returns-in_err-id-clause-command g c = grind (arith, common_steps)

pub returns-in_err-next-clause-command : goal.returns-in_err-next-clause-command
unfolding command_by name_value
returns-in_err-next-clause-command g c = grind (arith, common_steps)

pub returns-in_err-event-clause-command : goal.returns-in_err-event-clause-command
unfolding command_by name_value
returns-in_err-event-clause-command g c = grind (arith, common_steps)
