-- The same terms under the same numbers pass the same tests.
use Rattle.ec_exclusive.proofs.SameTerms.{read_terms_alone}
use Rattle.ec_exclusive.proofs.laws.neighbours_read_terms_alone.Goals as goal

pub returns : goal.returns
returns c = read_terms_alone
