-- Each number of the order has a property.
use Rattle.std.proofs.Common.{All, IsSome, take, drop, map, length, subst, sym, ap, ◌∙◌, arith}
use Rattle.std.proofs.lemmas.Grind.{common_steps}
use Rattle.std.proofs.lemmas.List.Elements.{All-take, All-drop}
use Rattle.slab.specs.Slab.{get as property_at}
use Rattle.ec_terms.specs.declared.ids.PropId.{PropId}
use Rattle.ec_store.specs.Table.{prop_at, number_of}
use Rattle.ec_store.proofs.TableLemmas.{items_is, all-kept}
use Rattle.ec_store.proofs.prop_records.Records.run.Goals as goal

pub returns-clause-run : goal.returns-clause-run
returns-clause-run c =
    c.run.ensures.run ∙ ap (λ ps. take (length c.run.result.now) (drop c.args.i ps)) (c.self.invariant.numbers ∙ ap (map number_of) (items_is c.self.view_is))

pub returns-clause-kept : goal.returns-clause-kept
returns-clause-kept c =
    let IsKept : PropId → Type 0 = λ p. IsSome (prop_at p.0 c.args.self.now.items) in
    subst (All IsKept) (sym c.run.ensures.run)
    (All-take IsKept (length c.run.result.now) (drop c.args.i c.self.inside.order.items)
    (All-drop IsKept c.args.i c.self.inside.order.items
    (subst (λ ks. All (λ (p : PropId). IsSome (prop_at p.0 ks)) c.self.inside.order.items) (items_is c.self.view_is)
    (all-kept (property_at c.self.inside.properties) c.self.inside.order.items c.self.invariant))))

pub run-requires : goal.run-requires
run-requires c = grind (arith, common_steps)
