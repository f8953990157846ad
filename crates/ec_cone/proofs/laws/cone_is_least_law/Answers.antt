-- No way needs more readings than there are.
use Rattle.ec_cone.proofs.ConeForms.{ConeHasAllBelow-law, ConeIsLeast-law}
use Rattle.ec_cone.proofs.laws.cone_is_least_law.Goals as goal

pub returns : goal.returns
returns c = record { closed = ConeHasAllBelow-law; least = ConeIsLeast-law }
