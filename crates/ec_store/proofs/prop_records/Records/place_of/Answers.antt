-- The search over the numbers cuts the properties.
use Rattle.std.proofs.Common.{◌≡◌, ◌≤◌, true, false, length, subst, ap, ◌∙◌}
use Rattle.std.specs.List.Sorted.{IsPartitionPoint}
use Rattle.std.specs.Ordering.{is_lt}
use Rattle.slab.specs.Slab.{get as property_at}
use Rattle.ec_terms.specs.Term.{ground_of, term_cmp}
use Rattle.ec_store.specs.Table.{KeptProp}
use Rattle.ec_store.proofs.TableLemmas.{items_is, length-order}
use Rattle.ec_store.proofs.prop_records.Records.place_of.Goals as goal

pub returns-clause-within : goal.returns-clause-within
returns-clause-within c =
    subst (λ n. c.count_before.result ≤ n)
    (length-order (property_at c.self.inside.properties) c.self.inside.order.items c.self.invariant ∙ ap length (items_is c.self.view_is))
    c.count_before.ensures.within

pub returns-clause-cut : goal.returns-clause-cut
returns-clause-cut c =
    subst (λ ks. IsPartitionPoint (λ (k : KeptProp). is_lt (term_cmp k.term (ground_of c.args.term.now)) ≡ true) (λ (k : KeptProp). is_lt (term_cmp k.term (ground_of c.args.term.now)) ≡ false) ks c.count_before.result)
    (items_is c.self.view_is) c.count_before.ensures.cut
