use Rattle.ec_parts.proofs.ListedInitials.{lists_initials, few_initials}
use Rattle.ec_parts.proofs.laws.initials_are_listed_law.Goals as goal

pub returns : goal.returns
returns c = record { listed = lists_initials; few = few_initials }
