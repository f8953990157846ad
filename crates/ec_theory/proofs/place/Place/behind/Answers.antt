-- A byte that is no line feed is followed by its piece's end on the same line.
use Rattle.std.proofs.Common.{rules}
use Rattle.ec_theory.proofs.place.Place.behind.Goals as goal

pub returns-else-first-eq10 : goal.returns-else-first-eq10
returns-else-first-eq10 c = search rules
