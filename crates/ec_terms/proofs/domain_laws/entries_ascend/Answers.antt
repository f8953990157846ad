use Rattle.ec_terms.proofs.DomainLemmas.{entries_of-ascend}
use Rattle.ec_terms.proofs.domain_laws.entries_ascend.Goals as goal

pub returns : goal.returns
returns c = entries_of-ascend
