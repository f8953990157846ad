use Rattle.ec_theory.specs.Sign.{is_compare}
use Rattle.ec_theory.specs.Reader.{compared}
use Rattle.ec_theory.proofs.NextTokens.{steps_pass}
use Rattle.ec_theory.proofs.condition.begins_literal.Goals as goal

pub returns-in-Some-compare : goal.returns-in-Some-compare
returns-in-Some-compare c = compared c.in-Some.ensures.some (steps_pass is_compare _ _ _ c.in-Some-compare.ensures.some)
