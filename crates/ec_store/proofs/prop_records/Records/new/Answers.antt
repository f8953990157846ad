-- The empty table.
use Rattle.slab.specs.Slab.{get as property_at}
use Rattle.ec_store.proofs.TableLemmas.{IsTable-nil}
use Rattle.ec_store.proofs.prop_records.Records.new.Goals as goal

pub invariant_of-result : goal.invariant_of-result
invariant_of-result c = IsTable-nil (property_at c.new.result) c.new-2.result.items c.new-2.ensures (λ id. rw c.new.ensures.empty)
