-- Where the patterns fit in neither order, the declaration does not speak of the two properties.
use Rattle.std.proofs.Common.{rules}
use Rattle.ec_terms.specs.Domain.{excludes}
use Rattle.ec_terms.proofs.domain.excludes.Goals as goal

pub returns-else-fit_together : goal.returns-else-fit_together
unfolding excludes
returns-else-fit_together c = search rules
