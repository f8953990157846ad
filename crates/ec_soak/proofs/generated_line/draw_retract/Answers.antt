-- The number that is drawn is below that of the line, and one more is named.
use Rattle.std.proofs.Common.{rules}
use Rattle.ec_soak.specs.Load.{drawn_retract}
use Rattle.ec_soak.proofs.generated_line.draw_retract.Goals as goal

pub returns-clause-line : goal.returns-clause-line
unfolding drawn_retract
returns-clause-line c = search rules
