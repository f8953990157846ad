-- A mark that breaks and initiates opens, and one that does not break leaves what is open.
use Rattle.std.proofs.Common.{rules}
use Rattle.ec_intervals.proofs.steps.open_behind.Goals as goal

pub returns-then-is_none : goal.returns-then-is_none
returns-then-is_none g c = search rules

pub returns-else-broken-2 : goal.returns-else-broken-2
returns-else-broken-2 g c = search rules
