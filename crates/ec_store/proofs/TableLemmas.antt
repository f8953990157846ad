-- How a table keeps its properties.
use Rattle.std.proofs.Common.{◌≡◌, ℕ, ◌<◌, ◌≤◌, zero, suc, Bool, true, false, not, ◌&&◌, All, IsSome, drop, List, [], ◌∷◌, Option, Some, None, refl, sym, ap, ap₂, subst, ◌∙◌, length, map, filter, get_or, slice_get, is_some, arith}
use Rattle.std.specs.Prelude.{option_map}
use Rattle.std.specs.List.{cons_option}
use Rattle.std.specs.List.Sorted.{IsPartitionedBy, IsPartitionPoint}
use Rattle.std.specs.declared.cmp.Ordering.{Ordering}
use Rattle.std.specs.Ordering.{is_lt, is_some_and}
use Rattle.std.proofs.lemmas.List.{length-map, get_or-map}
use Rattle.std.proofs.lemmas.Option.{slice_get-map, slice_get-get_or}
use Rattle.ec_terms.specs.declared.ground.Ground.{Ground}
use Rattle.ec_terms.specs.declared.ids.PropId.{PropId}
use Rattle.ec_terms.specs.Term.{term_cmp, term_eq}
use Rattle.ec_terms.proofs.OrderLemmas.{term_cmp-total, term_eq-Decides}
use Rattle.ec_lists.specs.Reserved.{Reserved}
use Rattle.ec_rows.specs.Ordered.{is_ascending}
use Rattle.ec_rows.proofs.OrderedLemmas.{IsPlace, IsPlace-by_key, IsPartitionedBy-ascending, is_at, is_eq-is_at, filter-behind_free, free-from_none, at-from_any}
use Rattle.ec_store.proofs.PropLemmas.{find-term, term_eq-is_eq, place-prop_at, same-places, list_any-absent, list_any-kept}
use Rattle.ec_store.specs.Table.{KeptProp, prop_at, prop_of, prop_before, kept_as, number_of, kept_of, IsTable}
use Rattle.ec_store.specs.declared.property.Property.{Property}
use Rattle.ec_lists.proofs.Tests.{list_any-same}

-- records that are the same have the same properties
pub items_is : {r s : Reserved KeptProp} → r ≡ s → r.items ≡ s.items
items_is same = ap (λ (t : Reserved KeptProp). t.items) same

-- ---- properties under their numbers

-- the property that is kept
abbrev pub property_of : KeptProp → Property
property_of k = record { term = k.term; mentions = k.mentions }

-- each is the property under its number
abbrev pub AllHeld : (ℕ → Option Property) → List KeptProp → Type 0
AllHeld property_at [] = Unit {0}
AllHeld property_at (k ∷ ks) = (property_at k.id ≡ Some (property_of k)) × AllHeld property_at ks

held-one : (property_at : ℕ → Option Property) (p : PropId) (found : Option Property) (rest : List KeptProp) → property_at p.0 ≡ found → AllHeld property_at rest →
    AllHeld property_at (cons_option (option_map (kept_as p.0) found) rest)
held-one property_at p None rest is held = held
held-one property_at p (Some property) rest is held = (is, held)

-- what is read from the properties is held there
pub AllHeld-kept_of : (property_at : ℕ → Option Property) (order : List PropId) → AllHeld property_at (kept_of property_at order)
AllHeld-kept_of property_at [] = tt
AllHeld-kept_of property_at (p ∷ order) = held-one property_at p (property_at p.0) (kept_of property_at order) refl (AllHeld-kept_of property_at order)

-- and what is held is read by its numbers
pub kept_of-numbers : (property_at : ℕ → Option Property) (ks : List KeptProp) → AllHeld property_at ks → kept_of property_at (map number_of ks) ≡ ks
kept_of-numbers property_at [] held = refl
kept_of-numbers property_at (k ∷ ks) held =
    ap₂ (λ found rest. cons_option (option_map (kept_as k.id) found) rest) held.0 (kept_of-numbers property_at ks held.1)

pub AllHeld-get_or : (property_at : ℕ → Option Property) (ks : List KeptProp) (i : ℕ) (d : KeptProp) → AllHeld property_at ks → i < length ks →
    property_at (get_or ks i d).id ≡ Some (property_of (get_or ks i d))
AllHeld-get_or property_at [] i d held within = absurd (omega arith)
AllHeld-get_or property_at (k ∷ ks) zero d held within = held.0
AllHeld-get_or property_at (k ∷ ks) (suc i) d held within = AllHeld-get_or property_at ks i d held.1 (omega arith)

pub AllHeld-slice_get : (property_at : ℕ → Option Property) (ks : List KeptProp) (i : ℕ) (k : KeptProp) → AllHeld property_at ks → slice_get ks i ≡ Some k →
    property_at k.id ≡ Some (property_of k)
AllHeld-slice_get property_at [] i k held is = cc
AllHeld-slice_get property_at (j ∷ js) zero k held is =
    let same : j ≡ k = cc in subst (λ (x : KeptProp). property_at x.id ≡ Some (property_of x)) same held.0
AllHeld-slice_get property_at (j ∷ js) (suc i) k held is = AllHeld-slice_get property_at js i k held.1 is

-- ---- the cut that a search finds

-- the test of a number: how the term of its property stands to a place
abbrev pub number_test : (ℕ → Option Property) → (Ground → Ordering) → PropId → Bool
number_test property_at place p = is_some_and is_lt (option_map (λ (property : Property). place property.term) (property_at p.0))

-- the test of a kept property
abbrev pub term_test : (Ground → Ordering) → KeptProp → Bool
term_test place k = is_lt (place k.term)

-- a property to read where there is none
blank : KeptProp
blank = record { id = 0; term = record { name = []; args = [] }; mentions = 0 }

module _ (property_at : ℕ → Option Property) (place : Ground → Ordering) where
  same_test : (k : KeptProp) → property_at k.id ≡ Some (property_of k) → number_test property_at place (number_of k) ≡ term_test place k
  same_test k held = ap (λ o. is_some_and is_lt (option_map (λ (property : Property). place property.term) o)) held

  -- at each place the tests agree
  test-at : (ks : List KeptProp) (i : ℕ) (d : KeptProp) (e : PropId) → AllHeld property_at ks → i < length ks →
      number_test property_at place (get_or (map number_of ks) i e) ≡ term_test place (get_or ks i d)
  test-at ks i d e held within =
      ap (number_test property_at place) (get_or-map number_of ks i d e within) ∙ same_test (get_or ks i d) (AllHeld-get_or property_at ks i d held within)

  pub IsPartitionedBy-numbers : (order : List PropId) (ks : List KeptProp) → order ≡ map number_of ks → AllHeld property_at ks → IsPartitionedBy (term_test place) ks →
      IsPartitionedBy (number_test property_at place) order
  IsPartitionedBy-numbers order ks is held parted =
      subst (IsPartitionedBy (number_test property_at place)) (sym is)
      (λ i j d le within passes.
      let inside : j < length ks = subst (λ n. j < n) (length-map ks number_of) within in
      test-at ks i blank d held (omega arith) ∙ parted i j blank le inside (sym (test-at ks j blank d held inside) ∙ passes))

  pub IsPartitionPoint-numbers : (order : List PropId) (ks : List KeptProp) (n : ℕ) → order ≡ map number_of ks → AllHeld property_at ks → n ≤ length ks →
      IsPartitionPoint (λ p. number_test property_at place p ≡ true) (λ p. number_test property_at place p ≡ false) order n →
      IsPartitionPoint (λ k. term_test place k ≡ true) (λ k. term_test place k ≡ false) ks n
  IsPartitionPoint-numbers order ks n is held within cut =
      let cut_here : IsPartitionPoint (λ p. number_test property_at place p ≡ true) (λ p. number_test property_at place p ≡ false) (map number_of ks) n =
      subst (λ ps. IsPartitionPoint (λ p. number_test property_at place p ≡ true) (λ p. number_test property_at place p ≡ false) ps n) is cut in (
        λ i d low high. sym (test-at ks i d (number_of d) held (omega arith)) ∙ cut_here.0 i (number_of d) low high,
        λ i d low high. sym (test-at ks i d (number_of d) held high) ∙ cut_here.1 i (number_of d) low (subst (λ m. i < m) (sym (length-map ks number_of)) high),
      )

-- ---- a table

-- the empty one
pub IsTable-nil : (property_at : ℕ → Option Property) (order : List PropId) → order ≡ [] → ((id : ℕ) → property_at id ≡ None) → IsTable property_at order
unfolding is_ascending
IsTable-nil property_at order empty none =
    subst (IsTable property_at) (sym empty) (record { numbers = refl; in_order = refl; found = λ id. ap (option_map (kept_as id)) (sym (none id)) })

-- a term has a place among the properties
pub IsPlace-term : (term : Ground) → IsPlace prop_before (λ k. is_lt (term_cmp k.term term)) (λ k. is_lt (term_cmp term k.term))
IsPlace-term term = IsPlace-by_key term_cmp term_cmp-total (λ (k : KeptProp). k.term) term

-- a property has a term where it stands neither before it nor behind it
has_term-is_at : (term : Ground) (k : KeptProp) → term_eq k.term term ≡ is_at (λ (j : KeptProp). is_lt (term_cmp j.term term)) (λ (j : KeptProp). is_lt (term_cmp term j.term)) k
has_term-is_at term k = term_eq-is_eq k.term term ∙ is_eq-is_at term_cmp term_cmp-total (λ (j : KeptProp). j.term) term k

module _ (property_at : ℕ → Option Property) (order : List PropId) (table : IsTable property_at order) where
  -- ---- searches

  -- the cut of the properties
  abbrev pub IsCut : (Ground → Ordering) → ℕ → Type 0
  IsCut place i = IsPartitionPoint (λ k. is_lt (place k.term) ≡ true) (λ k. is_lt (place k.term) ≡ false) (kept_of property_at order) i

  pub length-order : length order ≡ length (kept_of property_at order)
  length-order = ap length table.numbers ∙ length-map (kept_of property_at order) number_of

  pub IsPartitionedBy-term : (term : Ground) → IsPartitionedBy (number_test property_at (λ t. term_cmp t term)) order
  IsPartitionedBy-term term =
      IsPartitionedBy-numbers property_at (λ t. term_cmp t term) order (kept_of property_at order) table.numbers (AllHeld-kept_of property_at order)
      (IsPartitionedBy-ascending prop_before (λ k. is_lt (term_cmp k.term term)) (IsPlace-term term).keeps (kept_of property_at order) table.in_order)

  pub IsCut-numbers : (place : Ground → Ordering) (i : ℕ) → i ≤ length order →
      IsPartitionPoint (λ p. number_test property_at place p ≡ true) (λ p. number_test property_at place p ≡ false) order i → IsCut place i
  IsCut-numbers place i within cut =
      IsPartitionPoint-numbers property_at place order (kept_of property_at order) i table.numbers (AllHeld-kept_of property_at order) (subst (λ n. i ≤ n) length-order within) cut

  -- ---- what stands at a place

  -- the number at a place is that of the property there
  number-at : (i : ℕ) (d : PropId) (e : KeptProp) → i < length order → get_or order i d ≡ number_of (get_or (kept_of property_at order) i e)
  number-at i d e within =
      ap (λ ps. get_or ps i d) table.numbers ∙ get_or-map number_of (kept_of property_at order) i e d (subst (λ n. i < n) length-order within)

  -- and a test of the one is a test of the other
  test-number : (test : Ordering → Bool) (place : Ground → Ordering) (i : ℕ) (d : PropId) (e : KeptProp) → i < length order →
      is_some_and test (option_map (λ (property : Property). place property.term) (property_at (get_or order i d).0)) ≡ test (place (get_or (kept_of property_at order) i e).term)
  test-number test place i d e within =
      ap (λ o. is_some_and test (option_map (λ (property : Property). place property.term) o))
      (ap (λ (p : PropId). property_at p.0) (number-at i d e within)
      ∙ AllHeld-get_or property_at (kept_of property_at order) i e (AllHeld-kept_of property_at order) (subst (λ n. i < n) length-order within))

  -- nothing is at the place of a term
  abbrev pub IsFree : Ground → ℕ → Type 0
  IsFree term i = (e : KeptProp) → i < length (kept_of property_at order) → is_lt (term_cmp term (get_or (kept_of property_at order) i e).term) ≡ true

  -- since no property has the term
  pub IsFree-absent : (term : Ground) (i : ℕ) → IsCut (λ t. term_cmp t term) i → prop_of term (kept_of property_at order) ≡ None → IsFree term i
  IsFree-absent term i cut none e within =
      free-from_none (λ (k : KeptProp). is_lt (term_cmp k.term term)) (λ (k : KeptProp). is_lt (term_cmp term k.term)) (kept_of property_at order) i cut
      (sym (list_any-same (λ (k : KeptProp). term_eq k.term term) (is_at (λ (k : KeptProp). is_lt (term_cmp k.term term)) (λ (k : KeptProp). is_lt (term_cmp term k.term))) (has_term-is_at term) (kept_of property_at order))
      ∙ list_any-absent term (kept_of property_at order) none) e within

  -- the term at its cut, where some property has it
  pub term-at_cut : (term : Ground) (i id : ℕ) → IsCut (λ t. term_cmp t term) i → prop_of term (kept_of property_at order) ≡ Some id →
      option_map (λ (k : KeptProp). k.term) (slice_get (kept_of property_at order) i) ≡ Some term
  term-at_cut term i id cut some =
      let there = at-from_any prop_before (λ (k : KeptProp). is_lt (term_cmp k.term term)) (λ (k : KeptProp). is_lt (term_cmp term k.term)) (IsPlace-term term) (kept_of property_at order) i table.in_order cut
      (sym (list_any-same (λ (k : KeptProp). term_eq k.term term) (is_at (λ (k : KeptProp). is_lt (term_cmp k.term term)) (λ (k : KeptProp). is_lt (term_cmp term k.term))) (has_term-is_at term) (kept_of property_at order))
      ∙ list_any-kept term (kept_of property_at order) id some) in
      let k : KeptProp = get_or (kept_of property_at order) i blank in
      ap (option_map (λ (j : KeptProp). j.term)) (slice_get-get_or (kept_of property_at order) i blank there.0)
      ∙ ap Some ((term_eq-Decides k.term term).0
      (has_term-is_at term k ∙ from_both (is_lt (term_cmp k.term term)) (is_lt (term_cmp term k.term)) (cut.1 i blank (omega arith) there.0) (there.1 blank)))
    where
      from_both : (a b : Bool) → a ≡ false → b ≡ false → (not a && not b) ≡ true
      from_both a b = grind arith

  pub behind-free : (term : Ground) (i : ℕ) → IsCut (λ t. term_cmp t term) i → IsFree term i →
      drop i (kept_of property_at order) ≡ filter (λ k. is_lt (term_cmp term k.term)) (kept_of property_at order)
  behind-free term i cut free =
      sym (filter-behind_free prop_before (λ k. is_lt (term_cmp k.term term)) (λ k. is_lt (term_cmp term k.term)) (IsPlace-term term) (kept_of property_at order) i table.in_order cut free)

  -- ---- what a table answers

  -- what stands in the order is what its number finds
  own-property : (i : ℕ) (k : KeptProp) → slice_get (kept_of property_at order) i ≡ Some k → prop_at k.id (kept_of property_at order) ≡ Some k
  own-property i k is =
      table.found k.id ∙ ap (option_map (kept_as k.id)) (AllHeld-slice_get property_at (kept_of property_at order) i k (AllHeld-kept_of property_at order) is)

  pub own_numbers : All (λ (k : KeptProp). prop_at k.id (kept_of property_at order) ≡ Some k) (kept_of property_at order)
  own_numbers i d within =
      own-property i (get_or (kept_of property_at order) i d) (slice_get-get_or (kept_of property_at order) i d within)

  -- the property whose number stands at a place
  kept-at_place : (i : ℕ) (p : PropId) → slice_get order i ≡ Some p → (k : KeptProp) × (slice_get (kept_of property_at order) i ≡ Some k) × (k.id ≡ p.0)
  kept-at_place i p is =
      of (slice_get (kept_of property_at order) i)
      (sym (slice_get-map number_of (kept_of property_at order) i) ∙ ap (λ ps. slice_get ps i) (sym table.numbers) ∙ is)
    where
      of : (o : Option KeptProp) → option_map number_of o ≡ Some p → (k : KeptProp) × (o ≡ Some k) × (k.id ≡ p.0)
      of None e = cc
      of (Some k) e = let same : number_of k ≡ p = cc in (k, refl, ap (λ (q : PropId). q.0) same)

  pub prop_at-place : (i : ℕ) (p : PropId) → slice_get order i ≡ Some p → prop_at p.0 (kept_of property_at order) ≡ slice_get (kept_of property_at order) i
  prop_at-place i p is =
      let there = kept-at_place i p is in
      ap (λ n. prop_at n (kept_of property_at order)) (sym there.2) ∙ own-property i there.0 there.1 ∙ sym there.1

  pub kept-place : (i : ℕ) (p : PropId) → slice_get order i ≡ Some p → is_some (prop_at p.0 (kept_of property_at order)) ≡ true
  kept-place i p is =
      let there = kept-at_place i p is in ap is_some (prop_at-place i p is ∙ there.1)

  -- a kept property stands at the place that its term finds
  pub same-place : (id i : ℕ) (property : Property) → property_at id ≡ Some property →
      option_map (λ (k : KeptProp). k.term) (slice_get (kept_of property_at order) i) ≡ Some property.term → slice_get (kept_of property_at order) i ≡ prop_at id (kept_of property_at order)
  same-place id i property is here =
      let found : prop_at id (kept_of property_at order) ≡ Some (kept_as id property) = table.found id ∙ ap (option_map (kept_as id)) is in
      let at = place-prop_at id (kept_of property_at order) (kept_as id property) found in
      of (slice_get (kept_of property_at order) i) refl here found at.0 at.1
    where
      of : (o : Option KeptProp) → slice_get (kept_of property_at order) i ≡ o → option_map (λ (k : KeptProp). k.term) o ≡ Some property.term →
          prop_at id (kept_of property_at order) ≡ Some (kept_as id property) → (j : ℕ) → slice_get (kept_of property_at order) j ≡ Some (kept_as id property) → o ≡ prop_at id (kept_of property_at order)
      of None there has found j at = cc
      of (Some k) there has found j at =
          let same_term : k.term ≡ property.term = cc in
          ap Some (same-places (kept_of property_at order) i j k (kept_as id property) table.in_order there at same_term) ∙ sym found

  -- and its term finds some place
  pub prop_of-kept : (id : ℕ) (property : Property) → property_at id ≡ Some property →
      prop_of property.term (kept_of property_at order) ≡ Some id
  prop_of-kept id property is =
      let found : prop_at id (kept_of property_at order) ≡ Some (kept_as id property) = table.found id ∙ ap (option_map (kept_as id)) is in
      let at = place-prop_at id (kept_of property_at order) (kept_as id property) found in
      ap (option_map (λ (k : KeptProp). k.id)) (find-term (kept_of property_at order) at.0 (kept_as id property) table.in_order at.1)

  -- what stands at a place stands within the order
  pub within-order : (i : ℕ) (k : KeptProp) → slice_get (kept_of property_at order) i ≡ Some k → i < length order
  within-order i k is = subst (λ n. i < n) (sym length-order) (within-slice (kept_of property_at order) i is)
    where
      within-slice : (ks : List KeptProp) (j : ℕ) → slice_get ks j ≡ Some k → j < length ks
      within-slice [] j there = cc
      within-slice (x ∷ ks) zero there = omega arith
      within-slice (x ∷ ks) (suc j) there = let ih = within-slice ks j there in omega arith

  -- each number of the order has a property
  pub all-kept : All (λ (p : PropId). IsSome (prop_at p.0 (kept_of property_at order))) order
  all-kept i d within = kept-place i (get_or order i d) (slice_get-get_or order i d within)
