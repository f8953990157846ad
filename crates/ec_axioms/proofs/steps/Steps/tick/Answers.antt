-- The book's total grows by what is added.
use Rattle.std.proofs.Common.{rules}
use Rattle.ec_axioms.proofs.steps.Steps.tick.Goals as goal

pub returns : goal.returns
returns g c = search rules
