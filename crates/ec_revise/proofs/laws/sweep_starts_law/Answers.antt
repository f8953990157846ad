-- Before the first event of one list alone all agrees.
use Rattle.ec_revise.proofs.Starting.{SweepStarts-law}
use Rattle.ec_revise.proofs.laws.sweep_starts_law.Goals as goal

pub returns : goal.returns
returns c = SweepStarts-law
