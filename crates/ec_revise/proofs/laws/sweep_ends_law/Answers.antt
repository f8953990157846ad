-- The sweep passes over all that is left.
use Rattle.ec_revise.proofs.Ending.{SweepEnds-law}
use Rattle.ec_revise.proofs.laws.sweep_ends_law.Goals as goal

pub returns : goal.returns
returns c = SweepEnds-law
