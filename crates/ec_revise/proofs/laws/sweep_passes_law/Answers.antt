-- The instants between are quiet for what differs.
use Rattle.ec_revise.proofs.Passing.{SweepPasses-law}
use Rattle.ec_revise.proofs.laws.sweep_passes_law.Goals as goal

pub returns : goal.returns
returns c = SweepPasses-law
