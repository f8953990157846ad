-- One property is mentioned so often.
use Rattle.std.proofs.Common.{Some, refl, ap, ◌∙◌, is_some}
use Rattle.slab.specs.Slab.{get as property_at, with_value, Updates}
use Rattle.slab.proofs.SlabLemmas.{Updates-with_value}
use Rattle.ec_store.specs.Table.{term_at, prop_of, with_mentions}
use Rattle.ec_store.specs.declared.property.Property.{Property}
use Rattle.ec_store.proofs.TableLemmas.{items_is, own_numbers}
use Rattle.ec_store.proofs.TableChangeLemmas.{IsTable-mentions, kept_of-mentions, term_at-mentions, prop_of-mentions}
use Rattle.ec_store.proofs.prop_records.Records.set_mentions.Goals as goal
use Rattle.ec_store.proofs.prop_records.Records.set_mentions.Goals.{After-index_mut}

-- the property that is written
written : (c : After-index_mut) → Property
written c = record { term = c.index_mut.result.now.term; mentions = c.args.count }

-- and no other
updates : (c : After-index_mut) → Updates c.self.inside.properties (with_value c.self.inside.properties c.args.p.0 (written c)) c.args.p.0 (Some (written c))
updates c = Updates-with_value c.self.inside.properties c.args.p.0 (written c) (ap is_some c.index_mut.ensures.value)

pub invariant_of-self : goal.invariant_of-self
unfolding written
invariant_of-self c =
    let at = (goal.at.invariant_of-self c).After-index_mut in
    IsTable-mentions (property_at c.self.inside.properties) (property_at (with_value c.self.inside.properties c.args.p.0 (written at))) c.self.inside.order.items c.self.inside.order.items
    c.self.invariant c.args.p c.args.count c.index_mut.result.now c.index_mut.ensures.value (updates at).changed (updates at).others refl

pub returns-clause-props : goal.returns-clause-props
unfolding written
returns-clause-props c =
    let at = (goal.at.returns-clause-props c).After-index_mut in
    kept_of-mentions (property_at c.self.inside.properties) (property_at (with_value c.self.inside.properties c.args.p.0 (written at))) c.self.inside.order.items c.self.inside.order.items
    c.self.invariant c.args.p c.args.count c.index_mut.result.now c.index_mut.ensures.value (updates at).changed (updates at).others refl
    ∙ ap (with_mentions c.args.p.0 c.args.count) (items_is c.self.view_is)

pub returns-clause-terms : goal.returns-clause-terms
unfolding written
returns-clause-terms c = λ q.
    let at = (goal.at.returns-clause-terms c).After-index_mut in
    term_at-mentions (property_at c.self.inside.properties) (property_at (with_value c.self.inside.properties c.args.p.0 (written at))) c.self.inside.order.items c.self.inside.order.items
    c.self.invariant c.args.p c.args.count c.index_mut.result.now c.index_mut.ensures.value (updates at).changed (updates at).others refl q
    ∙ ap (term_at q) (items_is c.self.view_is)

pub returns-clause-lookups : goal.returns-clause-lookups
unfolding written
returns-clause-lookups c = λ term.
    let at = (goal.at.returns-clause-lookups c).After-index_mut in
    prop_of-mentions (property_at c.self.inside.properties) (property_at (with_value c.self.inside.properties c.args.p.0 (written at))) c.self.inside.order.items c.self.inside.order.items
    c.self.invariant c.args.p c.args.count c.index_mut.result.now c.index_mut.ensures.value (updates at).changed (updates at).others refl term
    ∙ ap (prop_of term) (items_is c.self.view_is)

pub returns-clause-numbers : goal.returns-clause-numbers
unfolding written
returns-clause-numbers c =
    let at = (goal.at.returns-clause-numbers c).After-index_mut in
    own_numbers (property_at (with_value c.self.inside.properties c.args.p.0 (written at))) c.self.inside.order.items
    (IsTable-mentions (property_at c.self.inside.properties) (property_at (with_value c.self.inside.properties c.args.p.0 (written at))) c.self.inside.order.items c.self.inside.order.items
    c.self.invariant c.args.p c.args.count c.index_mut.result.now c.index_mut.ensures.value (updates at).changed (updates at).others refl)
