-- An entry of a rule has the forms of the rule, and exclusive properties have those of a declaration.
use Rattle.ec_cone.proofs.ConeClosed.{ConeIsClosed-law, ConeSuffices-law}
use Rattle.ec_cone.proofs.laws.cone_suffices_law.Goals as goal

pub returns : goal.returns
returns c = record { closed = ConeIsClosed-law; suffices = ConeSuffices-law }
