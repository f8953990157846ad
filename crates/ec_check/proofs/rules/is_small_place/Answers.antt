-- A variable is compared as in the contract.
use Rattle.std.proofs.Common.{rules}
use Rattle.ec_check.proofs.rules.is_small_place.Goals as goal

pub returns-in-Var : goal.returns-in-Var
returns-in-Var c = search rules
