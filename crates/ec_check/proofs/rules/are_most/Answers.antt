-- The rules are counted as in the contract.
use Rattle.std.proofs.Common.{rules}
use Rattle.ec_check.proofs.rules.are_most.Goals as goal

pub returns : goal.returns
returns c = search rules
