-- To list the entries of an event is one step.
use Rattle.std.proofs.Common.{rules}
use Rattle.ec_entries.proofs.entries.Entries.list.Goals as goal

pub returns-clause-step : goal.returns-clause-step
returns-clause-step g c = search rules
