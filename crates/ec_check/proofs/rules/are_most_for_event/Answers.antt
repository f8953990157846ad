-- The rules for the same events are counted as in the contract.
use Rattle.std.proofs.Common.{rules}
use Rattle.ec_check.proofs.rules.are_most_for_event.Goals as goal

pub returns : goal.returns
returns c = search rules
