-- No word behind the number makes no query.
use Rattle.std.proofs.Common.{arith}
use Rattle.std.proofs.lemmas.Grind.{common_steps}
use Rattle.ec_commands.specs.Commands.{past_of_words, plain_of_words}
use Rattle.ec_lines.proofs.line_reading.read_past.Goals as goal

pub returns-in_err-word-clause-command : goal.returns-in_err-word-clause-command
unfolding past_of_words plain_of_words
returns-in_err-word-clause-command g c = grind (arith, common_steps)
