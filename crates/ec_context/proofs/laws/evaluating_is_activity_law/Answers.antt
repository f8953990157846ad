-- What the table shows has the same literals, with terms for numbers.
use Rattle.ec_context.proofs.Shown.{literals_agree-is_active}
use Rattle.ec_context.proofs.laws.evaluating_is_activity_law.Goals as goal

pub returns : goal.returns
returns c = literals_agree-is_active
