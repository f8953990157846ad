-- The times come first, and the identities where the times are the same.
use Rattle.std.proofs.Common.{rules}
use Rattle.ec_rows.proofs.vec_times.compare.Goals as goal

pub returns : goal.returns
returns g c = search rules
