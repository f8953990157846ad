use Rattle.ec_theory.proofs.WalkLaws.{stop_of_wrong}
use Rattle.ec_theory.proofs.laws.stop_law.Goals as goal

pub returns : goal.returns
returns c = stop_of_wrong
