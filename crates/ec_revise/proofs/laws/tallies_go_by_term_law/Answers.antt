-- Numbers are the same where their terms are, and neighbours where their terms are exclusive.
use Rattle.ec_revise.proofs.ByTerm.{TalliesGoByTerm-law}
use Rattle.ec_revise.proofs.laws.tallies_go_by_term_law.Goals as goal

pub returns : goal.returns
returns c = TalliesGoByTerm-law
