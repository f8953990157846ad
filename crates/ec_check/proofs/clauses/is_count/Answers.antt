-- The bounds are those of the contract.
use Rattle.std.proofs.Common.{rules}
use Rattle.ec_check.proofs.clauses.is_count.Goals as goal

pub returns-then-arity-ge0 : goal.returns-then-arity-ge0
returns-then-arity-ge0 c = search rules
