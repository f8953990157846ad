-- The head, the tests and the literals are looked through as in the contract.
use Rattle.std.proofs.Common.{rules}
use Rattle.ec_check.specs.Faults.{each_open}
use Rattle.ec_check.proofs.rules.has_no_open_any.Goals as goal

pub returns : goal.returns
unfolding each_open
returns c = search rules
