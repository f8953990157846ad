-- An interval that covers a time has ended before a later one begins.
use Rattle.ec_axioms.proofs.HistoryLaws.{AtMostOneIntervalCovers-law}
use Rattle.ec_axioms.proofs.laws_intervals.at_most_one_interval_covers_law.Goals as goal

pub returns : goal.returns
returns c = AtMostOneIntervalCovers-law
