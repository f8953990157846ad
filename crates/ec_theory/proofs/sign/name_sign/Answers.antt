-- Of the names `if` and `not` are symbols, and no others.
use Rattle.std.proofs.Common.{rules}
use Rattle.ec_theory.specs.Reader.{shown}
use Rattle.ec_theory.specs.Sign.{name_sign}
use Rattle.ec_theory.proofs.sign.name_sign.Goals as goal

pub returns-then-is_text-2 : goal.returns-then-is_text-2
unfolding shown name_sign
returns-then-is_text-2 c = search rules

pub returns-else-is_text-2 : goal.returns-else-is_text-2
unfolding shown name_sign
returns-else-is_text-2 c = search rules
