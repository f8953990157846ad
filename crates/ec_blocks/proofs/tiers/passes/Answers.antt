-- A call through the reference is a call of the test.
use Rattle.std.proofs.Common.{[], ◌∷◌}
use Rattle.ec_blocks.proofs.tiers.passes.Goals as goal

pub returns : goal.returns
returns g c = λ p computes. let called = (g.met.F.FnMut.1.post_iff _ _ _).0 c.pred.ensures in (computes.at (_ ∷ []) _ _ called.1).0
