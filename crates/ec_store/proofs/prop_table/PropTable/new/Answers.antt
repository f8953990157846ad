-- No properties, and no keys.
use Rattle.ec_store.proofs.FoundLemmas.{IsFoundByKey-nil}
use Rattle.ec_store.proofs.prop_table.PropTable.new.Goals as goal

pub invariant_of-result : goal.invariant_of-result
invariant_of-result c = IsFoundByKey-nil c.new-2.result.items c.new.result.items c.new.ensures c.new-2.ensures
