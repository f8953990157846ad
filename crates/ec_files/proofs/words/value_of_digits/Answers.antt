-- Digits that are not read have too great a value.
use Rattle.ec_lines.proofs.Digits.{unread_digits}
use Rattle.ec_files.proofs.words.value_of_digits.Goals as goal

pub returns-in-Err-clause-none : goal.returns-in-Err-clause-none
returns-in-Err-clause-none c = unread_digits c.args.digits.now c.parse.result c.requires.some c.requires.digits c.parse.ensures.value.0 c.in-Err.field-0 c.in-Err.is
