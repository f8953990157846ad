use Rattle.ec_terms.proofs.MatchingLemmas.{fits-unique, fits_some-exists}
use Rattle.ec_terms.proofs.matching_laws.fitting_binding_is_unique.Goals as goal

pub returns-clause-unique : goal.returns-clause-unique
returns-clause-unique c = fits-unique

pub returns-clause-exists : goal.returns-clause-exists
returns-clause-exists c = fits_some-exists
