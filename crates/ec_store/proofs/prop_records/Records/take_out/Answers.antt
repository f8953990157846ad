-- A property and its number are taken out of their places.
use Rattle.std.proofs.Common.{◌≡◌, Some, None, true, false, cond, slice_get, subst, sym, ap, ◌∙◌, refl}
use Rattle.std.specs.Prelude.{option_map}
use Rattle.std.specs.List.Sorted.{IsPartitionPoint}
use Rattle.std.specs.Ordering.{is_lt}
use Rattle.slab.specs.Slab.{get as property_at}
use Rattle.ec_terms.specs.Term.{term_cmp, term_eq}
use Rattle.ec_store.specs.Table.{KeptProp, kept_of, kept_as, prop_of, term_at, without_prop}
use Rattle.ec_store.proofs.TableLemmas.{items_is, own_numbers, term-at_cut, prop_of-kept, same-place, within-order}
use Rattle.ec_store.proofs.TableChangeLemmas.{IsTable-remove, kept_of-remove, prop_of-less}
use Rattle.ec_store.proofs.prop_records.Records.take_out.Goals as goal
use Rattle.ec_store.proofs.prop_records.Records.take_out.Goals.{After-place_of-place}
use Rattle.ec_lists.proofs.Options.{IfSome-from}

-- the place cuts the properties by the term of the one that goes
cut : (c : After-place_of-place) →
    IsPartitionPoint (λ (k : KeptProp). is_lt (term_cmp k.term c.index.result.now.term) ≡ true) (λ (k : KeptProp). is_lt (term_cmp k.term c.index.result.now.term) ≡ false)
    (kept_of (property_at c.self.inside.properties) c.self.inside.order.items) c.place_of-place.result
cut c =
    subst (λ ks. IsPartitionPoint (λ (k : KeptProp). is_lt (term_cmp k.term c.index.result.now.term) ≡ true) (λ (k : KeptProp). is_lt (term_cmp k.term c.index.result.now.term) ≡ false) ks c.place_of-place.result)
    (sym (items_is c.self.view_is))
    (subst (λ t. IsPartitionPoint (λ (k : KeptProp). is_lt (term_cmp k.term t) ≡ true) (λ (k : KeptProp). is_lt (term_cmp k.term t) ≡ false) c.args.self.now.items c.place_of-place.result)
    c.borrow.ensures.same c.place_of-place.ensures.cut)

-- it stands there
there : (c : After-place_of-place) →
    slice_get (kept_of (property_at c.self.inside.properties) c.self.inside.order.items) c.place_of-place.result ≡ Some (kept_as c.args.p.0 c.index.result.now)
there c =
    same-place (property_at c.self.inside.properties) c.self.inside.order.items c.self.invariant c.args.p.0 c.place_of-place.result c.index.result.now c.index.ensures
    (term-at_cut (property_at c.self.inside.properties) c.self.inside.order.items c.self.invariant c.index.result.now.term c.place_of-place.result c.args.p.0 (cut c)
    (prop_of-kept (property_at c.self.inside.properties) c.self.inside.order.items c.self.invariant c.args.p.0 c.index.result.now c.index.ensures))
    ∙ c.self.invariant.found c.args.p.0 ∙ ap (option_map (kept_as c.args.p.0)) c.index.ensures

pub remove-requires : goal.remove-requires
remove-requires c =
    let within = within-order (property_at c.self.inside.properties) c.self.inside.order.items c.self.invariant c.place_of-place.result (kept_as c.args.p.0 c.index.result.now)
    (there (goal.at.remove-requires c).After-place_of-place) in
    within

pub invariant_of-self : goal.invariant_of-self
invariant_of-self c =
    IsTable-remove (property_at c.self.inside.properties) (property_at c.remove-2.new.self) c.self.inside.order.items c.remove.new.self.items c.self.invariant
    c.args.p c.place_of-place.result (kept_as c.args.p.0 c.index.result.now) (there (goal.at.invariant_of-self c).After-place_of-place) refl
    c.remove-2.ensures.updates.changed c.remove-2.ensures.updates.others c.remove.ensures.items

pub returns-clause-props : goal.returns-clause-props
returns-clause-props c =
    kept_of-remove (property_at c.self.inside.properties) (property_at c.remove-2.new.self) c.self.inside.order.items c.remove.new.self.items c.self.invariant
    c.args.p c.place_of-place.result (kept_as c.args.p.0 c.index.result.now) (there (goal.at.returns-clause-props c).After-place_of-place) refl
    c.remove-2.ensures.updates.changed c.remove-2.ensures.updates.others c.remove.ensures.items
    ∙ ap (without_prop c.args.p.0) (items_is c.self.view_is)

pub returns-clause-lookups : goal.returns-clause-lookups
returns-clause-lookups c =
    IfSome-from (term_at c.args.p.0 c.args.self.now.items) _ c.index.result.now.term
    (ap (term_at c.args.p.0) (sym (items_is c.self.view_is)) ∙ ap (option_map (λ (k : KeptProp). k.term)) (c.self.invariant.found c.args.p.0)
    ∙ ap (λ o. option_map (λ (k : KeptProp). k.term) (option_map (kept_as c.args.p.0) o)) c.index.ensures)
    (λ term. prop_of-less (property_at c.self.inside.properties) (property_at c.remove-2.new.self) c.self.inside.order.items c.remove.new.self.items c.self.invariant
    c.args.p c.place_of-place.result (kept_as c.args.p.0 c.index.result.now) (there (goal.at.returns-clause-lookups c).After-place_of-place) refl
    c.remove-2.ensures.updates.changed c.remove-2.ensures.updates.others c.remove.ensures.items term
    ∙ ap (λ ks. cond (term_eq c.index.result.now.term term) None (prop_of term ks)) (items_is c.self.view_is))

pub returns-clause-numbers : goal.returns-clause-numbers
returns-clause-numbers c =
    own_numbers (property_at c.remove-2.new.self) c.remove.new.self.items
    (IsTable-remove (property_at c.self.inside.properties) (property_at c.remove-2.new.self) c.self.inside.order.items c.remove.new.self.items c.self.invariant
    c.args.p c.place_of-place.result (kept_as c.args.p.0 c.index.result.now) (there (goal.at.returns-clause-numbers c).After-place_of-place) refl
    c.remove-2.ensures.updates.changed c.remove-2.ensures.updates.others c.remove.ensures.items)
