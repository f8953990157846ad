-- The head of an entry has the form of its rule's head.
use Rattle.ec_cone.proofs.ConeClosed.{ConeGoesByRules-law}
use Rattle.ec_cone.proofs.laws.cone_goes_by_rules_law.Goals as goal

pub returns : goal.returns
returns c = ConeGoesByRules-law
