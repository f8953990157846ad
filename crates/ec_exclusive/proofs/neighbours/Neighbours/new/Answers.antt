-- With no rows nothing is added, and no group has a member.
use Rattle.ec_exclusive.proofs.Grouped.{AreKept-none}
use Rattle.ec_exclusive.proofs.RowLemmas.{view-nil}
use Rattle.ec_exclusive.proofs.neighbours.Neighbours.new.Goals as goal

pub invariant_of-result : goal.invariant_of-result
invariant_of-result c = AreKept-none c.new.result c.new-2.result c.no_groups.result c.new.ensures c.new-2.ensures c.no_groups.ensures

pub returns : goal.returns
returns c = view-nil c.new.result c.new-2.result c.new.ensures
