-- Each interval that ends within the stretch is followed by one that begins there.
use Rattle.ec_axioms.proofs.HistoryLaws.{ThroughIsEachInstant-law}
use Rattle.ec_axioms.proofs.laws_intervals.through_is_each_instant_law.Goals as goal

pub returns : goal.returns
returns c = ThroughIsEachInstant-law
