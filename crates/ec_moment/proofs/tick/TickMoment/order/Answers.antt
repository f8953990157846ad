-- The order of moments is that of their numbers.
use Rattle.std.proofs.Common.{rules}
use Rattle.ec_moment.proofs.tick.TickMoment.order.Goals as goal

pub returns-clause-order : goal.returns-clause-order
returns-clause-order c = search rules

pub returns-clause-answer : goal.returns-clause-answer
returns-clause-answer c = search rules
