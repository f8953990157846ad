-- Each part is what it was, with the change.
use Rattle.std.proofs.Common.{rules}
use Rattle.ec_delta.proofs.touches.widened.Goals as goal

pub returns : goal.returns
returns g c = search rules
