-- The new list differs from the old in what is dirty alone.
use Rattle.std.proofs.Common.{rules}
use Rattle.ec_sweep.proofs.settle_one.currencies.Goals as goal

pub returns : goal.returns
returns c = search rules
