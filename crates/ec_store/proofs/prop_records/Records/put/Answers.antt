-- A property and its number are put in their places.
use Rattle.std.proofs.Common.{◌≡◌, None, sym, ap, ◌∙◌, subst, true, false, cond, Some, arith}
use Rattle.std.proofs.lemmas.Grind.{common_steps}
use Rattle.std.specs.List.{insert}
use Rattle.std.specs.List.Sorted.{IsPartitionPoint}
use Rattle.std.specs.Ordering.{is_lt}
use Rattle.slab.specs.Slab.{get as property_at}
use Rattle.ec_terms.specs.Term.{term_cmp, term_eq}
use Rattle.ec_rows.proofs.OrderedLemmas.{with_member-free, take-partition}
use Rattle.ec_store.specs.Table.{KeptProp, kept_of, prop_at, prop_of, prop_before, unmentioned, with_prop}
use Rattle.ec_store.proofs.TableLemmas.{items_is, own_numbers, IsFree-absent, behind-free}
use Rattle.ec_store.proofs.TableChangeLemmas.{IsTable-insert, kept_of-insert, prop_of-inserted, kept-inserted, term_at-inserted, prop_at-rest, prop_of-more}
use Rattle.ec_store.proofs.prop_records.Records.put.Goals as goal
use Rattle.ec_store.proofs.prop_records.Records.put.Goals.{After-insert}

-- the term is new
absent : (c : After-insert) → prop_of c.args.term (kept_of (property_at c.self.inside.properties) c.self.inside.order.items) ≡ None
absent c = ap (prop_of c.args.term) (items_is c.self.view_is) ∙ c.requires.absent

-- the place cuts the properties that were kept
cut : (c : After-insert) →
    IsPartitionPoint (λ (k : KeptProp). is_lt (term_cmp k.term c.args.term) ≡ true) (λ (k : KeptProp). is_lt (term_cmp k.term c.args.term) ≡ false)
    (kept_of (property_at c.self.inside.properties) c.self.inside.order.items) c.place_of-place.result
cut c =
    subst (λ ks. IsPartitionPoint (λ (k : KeptProp). is_lt (term_cmp k.term c.args.term) ≡ true) (λ (k : KeptProp). is_lt (term_cmp k.term c.args.term) ≡ false) ks c.place_of-place.result)
    (sym (items_is c.self.view_is))
    (subst (λ t. IsPartitionPoint (λ (k : KeptProp). is_lt (term_cmp k.term t) ≡ true) (λ (k : KeptProp). is_lt (term_cmp k.term t) ≡ false) c.args.self.now.items c.place_of-place.result)
    c.borrow.ensures.same c.place_of-place.ensures.cut)

-- the place is that of the term
placed : (c : After-insert) →
    insert (kept_of (property_at c.self.inside.properties) c.self.inside.order.items) c.place_of-place.result (unmentioned c.insert_reserved.result c.args.term)
    ≡ with_prop c.insert_reserved.result c.args.term (kept_of (property_at c.self.inside.properties) c.self.inside.order.items)
placed c =
    with_member-free prop_before (unmentioned c.insert_reserved.result c.args.term) (kept_of (property_at c.self.inside.properties) c.self.inside.order.items) c.place_of-place.result
    (take-partition (λ (k : KeptProp). is_lt (term_cmp k.term c.args.term)) (kept_of (property_at c.self.inside.properties) c.self.inside.order.items) c.place_of-place.result (cut c))
    (behind-free (property_at c.self.inside.properties) c.self.inside.order.items c.self.invariant c.args.term c.place_of-place.result (cut c)
    (IsFree-absent (property_at c.self.inside.properties) c.self.inside.order.items c.self.invariant c.args.term c.place_of-place.result (cut c) (absent c)))

pub invariant_of-self : goal.invariant_of-self
invariant_of-self c =
    IsTable-insert (property_at c.self.inside.properties) (property_at c.insert_reserved.new.self) c.self.inside.order.items c.insert.new.self.items c.self.invariant
    (record { 0 = c.insert_reserved.result }) c.args.term c.place_of-place.result
    c.insert_reserved.ensures.was_vacant c.insert_reserved.ensures.updates.changed c.insert_reserved.ensures.updates.others c.insert.ensures.items
    (placed (goal.at.invariant_of-self c).After-insert)

pub returns-clause-props : goal.returns-clause-props
returns-clause-props c =
    kept_of-insert (property_at c.self.inside.properties) (property_at c.insert_reserved.new.self) c.self.inside.order.items c.insert.new.self.items c.self.invariant
    (record { 0 = c.insert_reserved.result }) c.args.term c.place_of-place.result
    c.insert_reserved.ensures.was_vacant c.insert_reserved.ensures.updates.changed c.insert_reserved.ensures.updates.others c.insert.ensures.items
    (placed (goal.at.returns-clause-props c).After-insert)
    ∙ ap (with_prop c.insert_reserved.result c.args.term) (items_is c.self.view_is)

pub returns-clause-number : goal.returns-clause-number
returns-clause-number c =
    prop_of-inserted (property_at c.self.inside.properties) (property_at c.insert_reserved.new.self) c.self.inside.order.items c.insert.new.self.items c.self.invariant
    (record { 0 = c.insert_reserved.result }) c.args.term c.place_of-place.result
    c.insert_reserved.ensures.was_vacant c.insert_reserved.ensures.updates.changed c.insert_reserved.ensures.updates.others c.insert.ensures.items
    (placed (goal.at.returns-clause-number c).After-insert)

pub returns-clause-kept : goal.returns-clause-kept
returns-clause-kept c =
    kept-inserted (property_at c.self.inside.properties) (property_at c.insert_reserved.new.self) c.self.inside.order.items c.insert.new.self.items c.self.invariant
    (record { 0 = c.insert_reserved.result }) c.args.term c.place_of-place.result
    c.insert_reserved.ensures.was_vacant c.insert_reserved.ensures.updates.changed c.insert_reserved.ensures.updates.others c.insert.ensures.items
    (placed (goal.at.returns-clause-kept c).After-insert)

pub returns-clause-term : goal.returns-clause-term
returns-clause-term c =
    term_at-inserted (property_at c.self.inside.properties) (property_at c.insert_reserved.new.self) c.self.inside.order.items c.insert.new.self.items c.self.invariant
    (record { 0 = c.insert_reserved.result }) c.args.term c.place_of-place.result
    c.insert_reserved.ensures.was_vacant c.insert_reserved.ensures.updates.changed c.insert_reserved.ensures.updates.others c.insert.ensures.items
    (placed (goal.at.returns-clause-term c).After-insert)

pub returns-clause-others : goal.returns-clause-others
returns-clause-others c = λ q other.
    prop_at-rest (property_at c.self.inside.properties) (property_at c.insert_reserved.new.self) c.self.inside.order.items c.insert.new.self.items c.self.invariant
    (record { 0 = c.insert_reserved.result }) c.args.term c.place_of-place.result
    c.insert_reserved.ensures.was_vacant c.insert_reserved.ensures.updates.changed c.insert_reserved.ensures.updates.others c.insert.ensures.items
    (placed (goal.at.returns-clause-others c).After-insert) q other
    ∙ ap (prop_at q) (items_is c.self.view_is)

pub returns-clause-lookups : goal.returns-clause-lookups
returns-clause-lookups c = λ other.
    prop_of-more (property_at c.self.inside.properties) (property_at c.insert_reserved.new.self) c.self.inside.order.items c.insert.new.self.items c.self.invariant
    (record { 0 = c.insert_reserved.result }) c.args.term c.place_of-place.result
    c.insert_reserved.ensures.was_vacant c.insert_reserved.ensures.updates.changed c.insert_reserved.ensures.updates.others c.insert.ensures.items
    (placed (goal.at.returns-clause-lookups c).After-insert) other (absent (goal.at.returns-clause-lookups c).After-insert)
    ∙ ap (λ ks. cond (term_eq c.args.term other) (Some c.insert_reserved.result) (prop_of other ks)) (items_is c.self.view_is)

pub returns-clause-numbers : goal.returns-clause-numbers
returns-clause-numbers c =
    own_numbers (property_at c.insert_reserved.new.self) c.insert.new.self.items
    (IsTable-insert (property_at c.self.inside.properties) (property_at c.insert_reserved.new.self) c.self.inside.order.items c.insert.new.self.items c.self.invariant
    (record { 0 = c.insert_reserved.result }) c.args.term c.place_of-place.result
    c.insert_reserved.ensures.was_vacant c.insert_reserved.ensures.updates.changed c.insert_reserved.ensures.updates.others c.insert.ensures.items
    (placed (goal.at.returns-clause-numbers c).After-insert))

pub insert-requires-clause-within : goal.insert-requires-clause-within
insert-requires-clause-within c = grind (arith, common_steps)

pub insert_reserved-requires : goal.insert_reserved-requires
insert_reserved-requires c = grind (arith, common_steps)

pub insert-requires-clause-room : goal.insert-requires-clause-room
insert-requires-clause-room c = grind (arith, common_steps)
