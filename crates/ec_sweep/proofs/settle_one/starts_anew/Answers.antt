-- Where the initiations differ, it is the neighbours that tell whether one may break the property.
use Rattle.std.proofs.Common.{rules}
use Rattle.ec_sweep.proofs.settle_one.starts_anew.Goals as goal

pub returns-then-old-new : goal.returns-then-old-new
returns-then-old-new g c = search rules
