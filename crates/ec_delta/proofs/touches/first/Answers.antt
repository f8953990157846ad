-- What is touched is the one change alone.
use Rattle.std.proofs.Common.{rules}
use Rattle.ec_delta.proofs.touches.first.Goals as goal

pub returns : goal.returns
returns g c = search rules
