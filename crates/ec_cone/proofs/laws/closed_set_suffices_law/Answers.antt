-- From each time to the next, the currencies of the set go on agreeing.
use Rattle.ec_cone.proofs.ClosedSets.{ClosedSetSuffices-law}
use Rattle.ec_cone.proofs.laws.closed_set_suffices_law.Goals as goal

pub returns : goal.returns
returns c = ClosedSetSuffices-law
