-- The search cuts the order where the test of the closure ends.
use Rattle.std.proofs.Common.{rules}
use Rattle.std.proofs.lemmas.List.Sorted.{IsPartitionPoint-from_clause}
use Rattle.slab.specs.Slab.{get as property_at}
use Rattle.ec_terms.specs.Term.{ground_of, term_cmp}
use Rattle.ec_store.proofs.TableLemmas.{number_test, IsPartitionedBy-term, IsCut-numbers}
use Rattle.ec_store.proofs.prop_order.count_before.Goals as goal

pub returns-clause-cut : goal.returns-clause-cut
returns-clause-cut c =
    IsCut-numbers (property_at c.args.properties.now) c.args.order.now.items c.requires (λ t. term_cmp t (ground_of c.args.term.now)) c.partition_point.result c.partition_point.ensures.bound
    (IsPartitionPoint-from_clause (number_test (property_at c.args.properties.now) (λ t. term_cmp t (ground_of c.args.term.now))) c.args.order.now.items _
    c.partition_point.ensures.partitioned (IsPartitionedBy-term (property_at c.args.properties.now) c.args.order.now.items c.requires (ground_of c.args.term.now))
    (λ a r f' called. search (rules, called)))
