-- Each of two exclusive properties breaks where the other begins.
use Rattle.ec_axioms.proofs.HistoryLaws.{ExclusivesShareOnlyABeginning-law}
use Rattle.ec_axioms.proofs.laws_intervals.exclusives_share_only_a_beginning_law.Goals as goal

pub returns : goal.returns
returns c = ExclusivesShareOnlyABeginning-law
