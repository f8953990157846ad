-- The parts are drawn in their order.
use Rattle.std.proofs.Common.{rules}
use Rattle.ec_soak.specs.Load.{drawn_assert}
use Rattle.ec_soak.proofs.generated_line.draw_assert.Goals as goal

pub returns-clause-line : goal.returns-clause-line
unfolding drawn_assert
returns-clause-line c = search rules

pub returns-clause-state : goal.returns-clause-state
unfolding drawn_assert
returns-clause-state c = search rules
