-- What differs is dirty, and what is due by the next instant is due at it.
use Rattle.ec_revise.proofs.Looking.{HitsAreSeen-law}
use Rattle.ec_revise.proofs.laws.hits_are_seen_law.Goals as goal

pub returns : goal.returns
returns c = HitsAreSeen-law
