-- The marks of a property spell its intervals and its broken begins.
use Rattle.ec_axioms.proofs.HistoryLaws.{SpansAreTheIntervals-law}
use Rattle.ec_axioms.proofs.laws_intervals.spans_are_the_intervals_law.Goals as goal

pub returns : goal.returns
returns c = SpansAreTheIntervals-law
