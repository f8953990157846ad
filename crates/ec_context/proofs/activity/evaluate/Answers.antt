-- One step is counted.
use Rattle.std.proofs.Common.{rules}
use Rattle.ec_context.proofs.activity.evaluate.Goals as goal

pub returns-clause-step : goal.returns-clause-step
returns-clause-step g c = search rules
