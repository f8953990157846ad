-- The numbers of a map are distinct.
use Rattle.std.proofs.Common.{IsTrue, subst}
use Rattle.ec_delta.specs.Touched.{are_once}
use Rattle.ec_delta.proofs.OnceListed.{are_once-distinct}
use Rattle.ec_delta.proofs.touches.Touches.len.Goals as goal

pub returns-clause-once : goal.returns-clause-once
returns-clause-once g c = subst (λ rows. IsTrue (are_once rows)) c.self.view_is (are_once-distinct c.self.inside.rows c.len.ensures.once)
