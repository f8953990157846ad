-- What matters is read off the two marks and the two currencies.
use Rattle.std.proofs.Common.{rules}
use Rattle.ec_revise.proofs.settled.settle.Goals as goal

pub returns-clause-matters : goal.returns-clause-matters
returns-clause-matters g c = search rules
