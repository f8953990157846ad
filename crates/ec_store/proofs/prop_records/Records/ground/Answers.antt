-- A term has the number under which it is kept.
use Rattle.std.proofs.Common.{sym, ap, ◌∙◌}
use Rattle.slab.specs.Slab.{get as property_at}
use Rattle.ec_terms.specs.Term.{ground_of}
use Rattle.ec_store.specs.Table.{kept_of, prop_of}
use Rattle.ec_store.proofs.TableLemmas.{items_is, prop_of-kept}
use Rattle.ec_store.proofs.prop_records.Records.ground.Goals as goal

pub returns-clause-number : goal.returns-clause-number
returns-clause-number c =
    ap (prop_of (ground_of c.borrow.result)) (sym (items_is c.self.view_is))
    ∙ ap (λ t. prop_of t (kept_of (property_at c.self.inside.properties) c.self.inside.order.items)) c.borrow.ensures.same
    ∙ prop_of-kept (property_at c.self.inside.properties) c.self.inside.order.items c.self.invariant c.args.p.0 c.index.result.now c.index.ensures
