-- Each property is the one under its number.
use Rattle.std.proofs.Common.{subst, All, ◌≡◌, Some}
use Rattle.slab.specs.Slab.{get as property_at}
use Rattle.ec_store.specs.Table.{KeptProp, prop_at}
use Rattle.ec_store.proofs.TableLemmas.{items_is, own_numbers}
use Rattle.ec_store.proofs.prop_records.Records.len.Goals as goal

pub returns-clause-numbers : goal.returns-clause-numbers
returns-clause-numbers c =
    subst (λ ks. All (λ (k : KeptProp). prop_at k.id ks ≡ Some k) ks) (items_is c.self.view_is) (own_numbers (property_at c.self.inside.properties) c.self.inside.order.items c.self.invariant)
