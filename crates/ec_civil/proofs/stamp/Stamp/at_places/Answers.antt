-- The numbers are those at their places.
use Rattle.std.proofs.Common.{arith}
use Rattle.ec_civil.specs.Civil.{stamp_at}
use Rattle.ec_civil.proofs.Stamps.{same_stamp}
use Rattle.ec_civil.proofs.stamp.Stamp.at_places.Goals as goal

pub returns : goal.returns
unfolding stamp_at
returns c = same_stamp _ _ (omega arith) (omega arith) (omega arith) (omega arith) (omega arith) (omega arith)
