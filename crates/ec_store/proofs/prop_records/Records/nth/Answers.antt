-- The number at a place finds the property there.
use Rattle.std.proofs.Common.{◌≡◌, ap, sym, subst, ◌∙◌, is_some, slice_get, arith}
use Rattle.std.proofs.lemmas.Grind.{common_steps}
use Rattle.slab.specs.Slab.{get as property_at}
use Rattle.ec_store.specs.Table.{prop_at}
use Rattle.ec_store.proofs.TableLemmas.{items_is, prop_at-place, kept-place}
use Rattle.ec_store.proofs.prop_records.Records.nth.Goals as goal

pub returns-clause-prop : goal.returns-clause-prop
returns-clause-prop c =
    subst (λ ks. prop_at c.get.result.now.0 ks ≡ slice_get ks c.args.i) (items_is c.self.view_is)
    (prop_at-place (property_at c.self.inside.properties) c.self.inside.order.items c.self.invariant c.args.i c.get.result.now c.get.ensures)

pub returns-clause-kept : goal.returns-clause-kept
returns-clause-kept c =
    ap (λ ks. is_some (prop_at c.get.result.now.0 ks)) (sym (items_is c.self.view_is))
    ∙ kept-place (property_at c.self.inside.properties) c.self.inside.order.items c.self.invariant c.args.i c.get.result.now c.get.ensures

pub get-requires : goal.get-requires
get-requires c = grind (arith, common_steps)
