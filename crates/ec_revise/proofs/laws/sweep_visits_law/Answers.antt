-- What turned makes the new marks, and what is settled goes on from them.
use Rattle.ec_revise.proofs.Visiting.{SweepVisits-law}
use Rattle.ec_revise.proofs.laws.sweep_visits_law.Goals as goal

pub returns : goal.returns
returns c = SweepVisits-law
