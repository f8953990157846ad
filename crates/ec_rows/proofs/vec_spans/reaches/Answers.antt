-- The order of the two times says whether one lies up to the other.
use Rattle.std.proofs.Common.{rules}
use Rattle.ec_rows.proofs.vec_spans.reaches.Goals as goal

pub returns-in-At : goal.returns-in-At
returns-in-At g c = search rules
