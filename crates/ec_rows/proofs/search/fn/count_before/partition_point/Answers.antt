-- The order of the two times says whether one is earlier.
use Rattle.std.proofs.Common.{rules}
use Rattle.ec_rows.proofs.search.fn.count_before.partition_point.Goals as goal

pub returns : goal.returns
returns g c = search rules
