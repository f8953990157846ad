-- What follows from the calls and the tests before it.
use Rattle.std.proofs.Common.{arith}
use Rattle.std.proofs.lemmas.Grind.{common_steps}
use Rattle.ec_lines.proofs.line_reading.read_session.Goals as goal

pub returns-in_err-session-in-len2-clause-within : goal.returns-in_err-session-in-len2-clause-within
returns-in_err-session-in-len2-clause-within c = grind (arith, common_steps)

pub returns-in_err-read_digit-in-len2-clause-within : goal.returns-in_err-read_digit-in-len2-clause-within
returns-in_err-read_digit-in-len2-clause-within c = grind (arith, common_steps)
