-- A line with no word, or whose first word begins with `%`, says nothing.
use Rattle.std.proofs.Common.{rules, arith}
use Rattle.std.proofs.lemmas.Grind.{common_steps}
use Rattle.ec_commands.specs.Commands.{parsed_of, parsed_words}
use Rattle.ec_lines.proofs.line_reading.read_command.Goals as goal

pub returns-in-None-clause-line : goal.returns-in-None-clause-line
unfolding parsed_of parsed_words
returns-in-None-clause-line g c = search rules

pub returns-in-None-clause-session : goal.returns-in-None-clause-session
returns-in-None-clause-session c = grind (arith, common_steps)

pub returns-in-Some-clause-names : goal.returns-in-Some-clause-names
returns-in-Some-clause-names c = grind (arith, common_steps)

pub returns-in-None-clause-names : goal.returns-in-None-clause-names
returns-in-None-clause-names c = grind (arith, common_steps)

pub returns-in-Some-clause-session : goal.returns-in-Some-clause-session
returns-in-Some-clause-session c = grind (arith, common_steps)
