-- Where no slots are, none is out of order.
use Rattle.ec_exclusive.specs.Groups.{group_at}
use Rattle.ec_exclusive.proofs.GroupLemmas.{AreFoundByKey-nil}
use Rattle.ec_exclusive.proofs.groups.no_groups.Goals as goal

pub invariant_of-result : goal.invariant_of-result
invariant_of-result c = AreFoundByKey-nil (group_at c.new.result) c.new-2.result.items c.new-2.ensures
