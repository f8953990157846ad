-- No key stands in the map twice.
use Rattle.std.proofs.Common.{IsTrue, map, subst}
use Rattle.ec_delta.specs.Looked.{are_apart}
use Rattle.ec_sweep.specs.Words.{flip_of}
use Rattle.ec_sweep.proofs.WordRows.{are_apart-words}
use Rattle.ec_sweep.proofs.words.Words.len.Goals as goal

pub returns-clause-apart : goal.returns-clause-apart
returns-clause-apart c = subst (λ rows. IsTrue (are_apart (map flip_of rows))) c.self.view_is (are_apart-words c.self.inside.rows c.len.ensures.once)
