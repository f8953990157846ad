-- The number is in range exactly where it fits an `i64`.
use Rattle.std.proofs.Common.{rules}
use Rattle.ec_moment.proofs.number.signed.Goals as goal

pub returns : goal.returns
returns c = search rules
