-- A table with a property more, with a property less, and with other mentions.
use Rattle.std.proofs.Common.{◌≡◌, ℕ, zero, suc, true, false, cond, not, ◌&&◌, List, [], ◌∷◌, Option, Some, None, refl, sym, ap, ap₂, subst, ◌∙◌, ⊎_elim, map, slice_get, is_some}
use Rattle.std.specs.Prelude.{option_map, ◌==◌, if◌then◌else◌}
use Rattle.std.specs.List.{list_all, insert, remove}
use Rattle.std.specs.Ordering.{is_lt}
use Rattle.std.proofs.lemmas.Bool.{cases_Bool, false≢true, eqb-true}
use Rattle.ec_terms.specs.declared.ground.Ground.{Ground}
use Rattle.ec_terms.specs.declared.ids.PropId.{PropId}
use Rattle.ec_terms.specs.Term.{term_cmp, term_eq}
use Rattle.ec_lists.proofs.Booleans.{and-left, and-right}
use Rattle.ec_rows.proofs.OrderedLemmas.{ascending-first, ascending-rest, is_ascending-with_member, is_ascending-filter}
use Rattle.ec_store.specs.Table.{KeptProp, prop_at, term_at, prop_of, prop_before, is_in_order, unmentioned, with_prop, without_prop, mentioned, with_mentions, kept_as, number_of, kept_of, IsTable}
use Rattle.ec_store.specs.declared.property.Property.{Property}
use Rattle.ec_store.proofs.HeldLemmas.{map-insert, map-remove}
use Rattle.ec_store.proofs.PropLemmas.{by_term, prop_at-insert, prop_at-without, prop_at-with_mentions, term_at-with_mentions, in_order-with_mentions, prop_of-insert, prop_of-remove, prop_of-with_mentions, numbers-with_mentions}
use Rattle.ec_store.proofs.TableLemmas.{property_of, AllHeld, AllHeld-kept_of, AllHeld-slice_get, kept_of-numbers, prop_of-kept}
use Rattle.ec_lists.proofs.Filters.{filter-all}
use Rattle.ec_lists.proofs.Tests.{list_all-slice_get}
use Rattle.ec_lists.proofs.Numbers.{eqb-turned, eqb-same}

-- ---- properties that are held

AllHeld-others : (property_at new : ℕ → Option Property) (p : ℕ) (ks : List KeptProp) → AllHeld property_at ks → property_at p ≡ None →
    ((n : ℕ) → (n ≡ p → ⊥) → new n ≡ property_at n) → AllHeld new ks
AllHeld-others property_at new p [] held none others = tt
AllHeld-others property_at new p (k ∷ ks) held none others =
    (others k.id (λ is. let both : Some (property_of k) ≡ None = sym held.0 ∙ ap property_at is ∙ none in cc) ∙ held.0, AllHeld-others property_at new p ks held.1 none others)

AllHeld-insert : (property_at : ℕ → Option Property) (k : KeptProp) (ks : List KeptProp) (i : ℕ) → property_at k.id ≡ Some (property_of k) → AllHeld property_at ks →
    AllHeld property_at (insert ks i k)
AllHeld-insert property_at k [] zero here held = (here, tt)
AllHeld-insert property_at k [] (suc i) here held = (here, tt)
AllHeld-insert property_at k (j ∷ js) zero here held = (here, held)
AllHeld-insert property_at k (j ∷ js) (suc i) here held = (held.0, AllHeld-insert property_at k js i here held.1)

-- a property has a number that none of those behind it has
other_number : (property_at : ℕ → Option Property) (k j : KeptProp) → property_at k.id ≡ Some (property_of k) → property_at j.id ≡ Some (property_of j) →
    prop_before k j ≡ true → (j.id == k.id) ≡ false
other_number property_at k j here there before =
    ⊎_elim
    (λ e. let both : Some (property_of k) ≡ Some (property_of j) = sym here ∙ ap property_at (sym (eqb-true j.id k.id e)) ∙ there in
    let same : property_of k ≡ property_of j = cc in
    let itself : prop_before k k ≡ true = ap (λ (r : Property). is_lt (term_cmp k.term r.term)) same ∙ before in
    absurd (false≢true (sym (by_term.one_way k k itself) ∙ itself)))
    (λ e. e) (cases_Bool (j.id == k.id))

other_numbers : (property_at : ℕ → Option Property) (k : KeptProp) (ks : List KeptProp) → property_at k.id ≡ Some (property_of k) → AllHeld property_at ks →
    list_all (prop_before k) ks ≡ true → list_all (λ (j : KeptProp). not (j.id == k.id)) ks ≡ true
other_numbers property_at k [] here held all = refl
other_numbers property_at k (j ∷ js) here held all =
    ap₂ (λ a b. not a && b) (other_number property_at k j here held.0 (and-left (prop_before k j) (list_all (prop_before k) js) all))
    (other_numbers property_at k js here held.1 (and-right (prop_before k j) (list_all (prop_before k) js) all))

-- what stands at a place is the only one of its number
remove-without : (property_at : ℕ → Option Property) (ks : List KeptProp) (i : ℕ) (k : KeptProp) → AllHeld property_at ks → is_in_order ks ≡ true →
    slice_get ks i ≡ Some k → remove ks i ≡ without_prop k.id ks
remove-without property_at [] i k held ordered is = cc
remove-without property_at (j ∷ js) zero k held ordered is =
    let same : j ≡ k = cc in
    subst (λ (x : KeptProp). js ≡ without_prop x.id (j ∷ js)) same
    (sym (filter-all (λ (x : KeptProp). not (x.id == j.id)) js (other_numbers property_at j js held.0 held.1 (ascending-first prop_before j js ordered)))
    ∙ ap (λ b. cond (not b) (j ∷ without_prop j.id js) (without_prop j.id js)) (sym (eqb-same j.id)))
remove-without property_at (j ∷ js) (suc i) k held ordered is =
    let there = AllHeld-slice_get property_at js i k held.1 is in
    let before : prop_before j k ≡ true = list_all-slice_get (prop_before j) js i k (ascending-first prop_before j js ordered) is in
    let other : (k.id == j.id) ≡ false = other_number property_at j k held.0 there before in
    ap (λ ks. j ∷ ks) (remove-without property_at js i k held.1 (ascending-rest prop_before j js ordered) is)
    ∙ ap (λ b. cond (not b) (j ∷ without_prop k.id js) (without_prop k.id js)) (sym (eqb-turned k.id j.id other))

-- others read elsewhere
AllHeld-without : (property_at new : ℕ → Option Property) (p : ℕ) (ks : List KeptProp) → AllHeld property_at ks → ((n : ℕ) → (n ≡ p → ⊥) → new n ≡ property_at n) →
    AllHeld new (without_prop p ks)
AllHeld-without property_at new p [] held others = tt
AllHeld-without property_at new p (k ∷ ks) held others =
    let rest : List KeptProp = without_prop p ks in
    let ih : AllHeld new rest = AllHeld-without property_at new p ks held.1 others in
    ⊎_elim
    (λ e. subst (λ b. AllHeld new (cond (not b) (k ∷ rest) rest)) (sym e) ih)
    (λ e. subst (λ b. AllHeld new (cond (not b) (k ∷ rest) rest)) (sym e)
    (others k.id (λ is. false≢true (sym e ∙ ap (λ n. n == p) is ∙ eqb-same p)) ∙ held.0, ih))
    (cases_Bool (k.id == p))

-- the property of a number with another count
AllHeld-mentions : (property_at new : ℕ → Option Property) (p count : ℕ) (property : Property) (ks : List KeptProp) → AllHeld property_at ks → property_at p ≡ Some property →
    new p ≡ Some (record { term = property.term; mentions = count }) → ((n : ℕ) → (n ≡ p → ⊥) → new n ≡ property_at n) → AllHeld new (with_mentions p count ks)
AllHeld-mentions property_at new p count property [] held is there others = tt
AllHeld-mentions property_at new p count property (k ∷ ks) held is there others = (
  ⊎_elim
      (λ e. let number : k.id ≡ p = eqb-true k.id p e in
      let both : Some property ≡ Some (property_of k) = sym is ∙ ap property_at (sym number) ∙ held.0 in
      let same : property ≡ property_of k = cc in
      subst (λ b. new (if b then record k { mentions = count } else k).id ≡ Some (property_of (if b then record k { mentions = count } else k))) (sym e)
      (ap new number ∙ there ∙ ap (λ (r : Property). Some (with_count r)) same))
      (λ e. subst (λ b. new (if b then record k { mentions = count } else k).id ≡ Some (property_of (if b then record k { mentions = count } else k))) (sym e)
      (others k.id (λ same. false≢true (sym e ∙ ap (λ n. n == p) same ∙ eqb-same p)) ∙ held.0))
      (cases_Bool (k.id == p)),
  AllHeld-mentions property_at new p count property ks held.1 is there others,
)
  where
    with_count : Property → Property
    with_count r = record { term = r.term; mentions = count }

module _ (property_at new_property : ℕ → Option Property) (order new : List PropId) (table : IsTable property_at order) where
  -- ---- a property more

  module _ (p : PropId) (term : Ground) (i : ℕ) (free : property_at p.0 ≡ None) (there : new_property p.0 ≡ Some (record { term = term; mentions = 0 }))
      (others : (n : ℕ) → (n ≡ p.0 → ⊥) → new_property n ≡ property_at n) (is : new ≡ insert order i p)
      (placed : insert (kept_of property_at order) i (unmentioned p.0 term) ≡ with_prop p.0 term (kept_of property_at order)) where
    pub prop_at-free : prop_at p.0 (kept_of property_at order) ≡ None
    prop_at-free = table.found p.0 ∙ ap (option_map (kept_as p.0)) free

    numbers-inserted : new ≡ map number_of (insert (kept_of property_at order) i (unmentioned p.0 term))
    numbers-inserted = is ∙ ap (λ ps. insert ps i p) table.numbers ∙ map-insert number_of (kept_of property_at order) i (unmentioned p.0 term)

    inserted : kept_of new_property new ≡ insert (kept_of property_at order) i (unmentioned p.0 term)
    inserted =
        ap (kept_of new_property) numbers-inserted
        ∙ kept_of-numbers new_property (insert (kept_of property_at order) i (unmentioned p.0 term))
        (AllHeld-insert new_property (unmentioned p.0 term) (kept_of property_at order) i there
        (AllHeld-others property_at new_property p.0 (kept_of property_at order) (AllHeld-kept_of property_at order) free others))

    pub kept_of-insert : kept_of new_property new ≡ with_prop p.0 term (kept_of property_at order)
    kept_of-insert = inserted ∙ placed

    found-inserted : (id : ℕ) → cond (p.0 == id) (Some (unmentioned p.0 term)) (prop_at id (kept_of property_at order)) ≡ option_map (kept_as id) (new_property id)
    found-inserted id =
        ⊎_elim
        (λ e. let same : p.0 ≡ id = eqb-true p.0 id e in
        ap (λ b. cond b (Some (unmentioned p.0 term)) (prop_at id (kept_of property_at order))) e
        ∙ subst (λ n. Some (unmentioned p.0 term) ≡ option_map (kept_as n) (new_property n)) same (ap (option_map (kept_as p.0)) (sym there)))
        (λ e. ap (λ b. cond b (Some (unmentioned p.0 term)) (prop_at id (kept_of property_at order))) e ∙ table.found id
        ∙ ap (option_map (kept_as id)) (sym (others id (λ same. false≢true (sym e ∙ ap (λ n. p.0 == n) same ∙ eqb-same p.0)))))
        (cases_Bool (p.0 == id))

    pub IsTable-insert : IsTable new_property new
    IsTable-insert = record {
      numbers = numbers-inserted ∙ ap (map number_of) (sym inserted);
      in_order = ap is_in_order kept_of-insert ∙ is_ascending-with_member prop_before by_term (unmentioned p.0 term) (kept_of property_at order) table.in_order;
      found = λ id. ap (prop_at id) inserted ∙ prop_at-insert (unmentioned p.0 term) (kept_of property_at order) i id prop_at-free ∙ found-inserted id;
    }

    pub prop_of-inserted : prop_of term (kept_of new_property new) ≡ Some p.0
    prop_of-inserted = prop_of-kept new_property new IsTable-insert p.0 (record { term = term; mentions = 0 }) there

    pub kept-inserted : is_some (prop_at p.0 (kept_of new_property new)) ≡ true
    kept-inserted = ap is_some (IsTable-insert.found p.0 ∙ ap (option_map (kept_as p.0)) there)

    pub term_at-inserted : term_at p.0 (kept_of new_property new) ≡ Some term
    term_at-inserted = ap (option_map (λ (k : KeptProp). k.term)) (IsTable-insert.found p.0 ∙ ap (option_map (kept_as p.0)) there)

    pub prop_at-rest : (id : ℕ) → (id ≡ p.0 → ⊥) → prop_at id (kept_of new_property new) ≡ prop_at id (kept_of property_at order)
    prop_at-rest id other =
        ap (prop_at id) inserted ∙ prop_at-insert (unmentioned p.0 term) (kept_of property_at order) i id prop_at-free
        ∙ ap (λ b. cond b (Some (unmentioned p.0 term)) (prop_at id (kept_of property_at order)))
        (⊎_elim (λ e. absurd (other (sym (eqb-true p.0 id e)))) (λ e. e) (cases_Bool (p.0 == id)))

    pub prop_at-others : (id : ℕ) → is_some (prop_at id (kept_of property_at order)) ≡ true → prop_at id (kept_of new_property new) ≡ prop_at id (kept_of property_at order)
    prop_at-others id some =
        ap (prop_at id) inserted ∙ prop_at-insert (unmentioned p.0 term) (kept_of property_at order) i id prop_at-free
        ∙ ⊎_elim
        (λ e. let same : p.0 ≡ id = eqb-true p.0 id e in
        absurd (false≢true (sym (ap (λ n. is_some (prop_at n (kept_of property_at order))) (sym same) ∙ ap is_some prop_at-free) ∙ some)))
        (λ e. ap (λ b. cond b (Some (unmentioned p.0 term)) (prop_at id (kept_of property_at order))) e)
        (cases_Bool (p.0 == id))

    -- the numbers that terms find
    pub prop_of-more : (other : Ground) → prop_of term (kept_of property_at order) ≡ None →
        prop_of other (kept_of new_property new) ≡ cond (term_eq term other) (Some p.0) (prop_of other (kept_of property_at order))
    prop_of-more other none = ap (prop_of other) inserted ∙ prop_of-insert other (unmentioned p.0 term) (kept_of property_at order) i none

  -- ---- a property less

  module _ (p : PropId) (i : ℕ) (k : KeptProp) (at : slice_get (kept_of property_at order) i ≡ Some k) (same : k.id ≡ p.0) (gone : new_property p.0 ≡ None)
      (others : (n : ℕ) → (n ≡ p.0 → ⊥) → new_property n ≡ property_at n) (is : new ≡ remove order i) where
    removed : remove (kept_of property_at order) i ≡ without_prop p.0 (kept_of property_at order)
    removed =
        remove-without property_at (kept_of property_at order) i k (AllHeld-kept_of property_at order) table.in_order at
        ∙ ap (λ n. without_prop n (kept_of property_at order)) same

    numbers-removed : new ≡ map number_of (without_prop p.0 (kept_of property_at order))
    numbers-removed = is ∙ ap (λ ps. remove ps i) table.numbers ∙ map-remove number_of (kept_of property_at order) i ∙ ap (map number_of) removed

    pub kept_of-remove : kept_of new_property new ≡ without_prop p.0 (kept_of property_at order)
    kept_of-remove =
        ap (kept_of new_property) numbers-removed
        ∙ kept_of-numbers new_property (without_prop p.0 (kept_of property_at order))
        (AllHeld-without property_at new_property p.0 (kept_of property_at order) (AllHeld-kept_of property_at order) others)

    found-removed : (id : ℕ) → cond (p.0 == id) None (prop_at id (kept_of property_at order)) ≡ option_map (kept_as id) (new_property id)
    found-removed id =
        ⊎_elim
        (λ e. ap (λ b. cond b None (prop_at id (kept_of property_at order))) e
        ∙ subst (λ n. None ≡ option_map (kept_as n) (new_property n)) (eqb-true p.0 id e) (ap (option_map (kept_as p.0)) (sym gone)))
        (λ e. ap (λ b. cond b None (prop_at id (kept_of property_at order))) e ∙ table.found id
        ∙ ap (option_map (kept_as id)) (sym (others id (λ is_it. false≢true (sym e ∙ ap (λ n. p.0 == n) is_it ∙ eqb-same p.0)))))
        (cases_Bool (p.0 == id))

    pub IsTable-remove : IsTable new_property new
    IsTable-remove = record {
      numbers = numbers-removed ∙ ap (map number_of) (sym kept_of-remove);
      in_order = ap is_in_order kept_of-remove ∙ is_ascending-filter prop_before (λ (j : KeptProp). not (j.id == p.0)) (kept_of property_at order) table.in_order;
      found = λ id. ap (prop_at id) kept_of-remove ∙ prop_at-without p.0 id (kept_of property_at order) ∙ found-removed id;
    }

    -- the numbers that terms find
    pub prop_of-less : (other : Ground) → prop_of other (kept_of new_property new) ≡ cond (term_eq k.term other) None (prop_of other (kept_of property_at order))
    prop_of-less other = ap (prop_of other) (kept_of-remove ∙ sym removed) ∙ prop_of-remove other (kept_of property_at order) i k table.in_order at

  -- ---- other mentions

  module _ (p : PropId) (count : ℕ) (property : Property) (was : property_at p.0 ≡ Some property) (there : new_property p.0 ≡ Some (record { term = property.term; mentions = count }))
      (others : (n : ℕ) → (n ≡ p.0 → ⊥) → new_property n ≡ property_at n) (is : new ≡ order) where
    numbers-mentioned : new ≡ map number_of (with_mentions p.0 count (kept_of property_at order))
    numbers-mentioned = is ∙ table.numbers ∙ sym (numbers-with_mentions p.0 count (kept_of property_at order))

    pub kept_of-mentions : kept_of new_property new ≡ with_mentions p.0 count (kept_of property_at order)
    kept_of-mentions =
        ap (kept_of new_property) numbers-mentioned
        ∙ kept_of-numbers new_property (with_mentions p.0 count (kept_of property_at order))
        (AllHeld-mentions property_at new_property p.0 count property (kept_of property_at order) (AllHeld-kept_of property_at order) was there others)

    other-mentioned : (id : ℕ) (o : Option Property) → (id == p.0) ≡ false → option_map (mentioned p.0 count) (option_map (kept_as id) o) ≡ option_map (kept_as id) o
    other-mentioned id None other = refl
    other-mentioned id (Some r) other = ap (λ b. Some (if b then record (kept_as id r) { mentions = count } else kept_as id r)) other

    found-mentioned : (id : ℕ) → option_map (mentioned p.0 count) (prop_at id (kept_of property_at order)) ≡ option_map (kept_as id) (new_property id)
    found-mentioned id =
        ap (option_map (mentioned p.0 count)) (table.found id)
        ∙ ⊎_elim
        (λ e. subst (λ n. option_map (mentioned p.0 count) (option_map (kept_as n) (property_at n)) ≡ option_map (kept_as n) (new_property n)) (sym (eqb-true id p.0 e))
        (ap (λ o. option_map (mentioned p.0 count) (option_map (kept_as p.0) o)) was
        ∙ ap (λ b. Some (if b then record (kept_as p.0 property) { mentions = count } else kept_as p.0 property)) (eqb-same p.0)
        ∙ ap (option_map (kept_as p.0)) (sym there)))
        (λ e. other-mentioned id (property_at id) e
        ∙ ap (option_map (kept_as id)) (sym (others id (λ same. false≢true (sym e ∙ ap (λ n. n == p.0) same ∙ eqb-same p.0)))))
        (cases_Bool (id == p.0))

    pub IsTable-mentions : IsTable new_property new
    IsTable-mentions = record {
      numbers = numbers-mentioned ∙ ap (map number_of) (sym kept_of-mentions);
      in_order = ap is_in_order kept_of-mentions ∙ in_order-with_mentions p.0 count (kept_of property_at order) ∙ table.in_order;
      found = λ id. ap (prop_at id) kept_of-mentions ∙ prop_at-with_mentions p.0 count id (kept_of property_at order) ∙ found-mentioned id;
    }

    pub term_at-mentions : (id : ℕ) → term_at id (kept_of new_property new) ≡ term_at id (kept_of property_at order)
    term_at-mentions id = ap (term_at id) kept_of-mentions ∙ term_at-with_mentions p.0 count id (kept_of property_at order)

    pub prop_of-mentions : (other : Ground) → prop_of other (kept_of new_property new) ≡ prop_of other (kept_of property_at order)
    prop_of-mentions other = ap (prop_of other) kept_of-mentions ∙ prop_of-with_mentions p.0 count other (kept_of property_at order)
