-- By time, then by slot, then by place.
use Rattle.std.proofs.Common.{rules}
use Rattle.ec_entries.proofs.ordered.compare.Goals as goal

pub returns : goal.returns
returns g c = search rules
