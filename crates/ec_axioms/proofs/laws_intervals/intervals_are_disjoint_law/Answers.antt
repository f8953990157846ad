-- The next break after a begin comes not after a later start.
use Rattle.ec_axioms.proofs.HistoryLaws.{IntervalsAreDisjoint-law}
use Rattle.ec_axioms.proofs.laws_intervals.intervals_are_disjoint_law.Goals as goal

pub returns : goal.returns
returns c = IntervalsAreDisjoint-law
