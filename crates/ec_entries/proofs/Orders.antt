-- The order of dependents, and edits of a list of them: one put in its place, and one taken out.
use Rattle.std.proofs.Common.{◌≡◌, ◌<◌, ℕ, ℤ, zero, suc, Bool, true, false, not, cond, ◌&&◌, ◌||◌, List, [], ◌∷◌, length, filter, get_or, refl, sym, ap, ap₂, subst, ◌∙◌, ⊎_elim, arith}
use Rattle.std.specs.Prelude.{◌==◌, int_lt, int_le}
use Rattle.std.specs.Cmp.{IsTotalOrder}
use Rattle.std.specs.declared.cmp.Ordering.{Ordering}
use Rattle.std.specs.declared.cmp.Ordering.TheVariants.{Less, Equal, Greater}
use Rattle.std.specs.Ordering.{int_cmp, nat_cmp, is_lt, is_eq, ordering_then}
use Rattle.std.specs.List.{list_any, insert, remove}
use Rattle.std.specs.List.Sorted.{IsPartitionedBy}
use Rattle.std.proofs.lemmas.Cmp.{int_cmp_total, nat_cmp_total, on_total, then_total}
use Rattle.std.proofs.lemmas.Bool.{cases_Bool}
use Rattle.std.proofs.lemmas.Int.{ints}
use Rattle.std.proofs.Math.Bool.{or-true}
use Rattle.ec_entries.specs.declared.event_entries.Dependent.{Dependent}
use Rattle.ec_entries.specs.Dependents.{AreInOrder, dependent_before, from_place, is_from}
use Rattle.ec_rows.proofs.OrderedLemmas.{IsPlace, IsPlace-by_key, IsOrder-by_key, IsPartitionedBy-ascending, at-from_any, filter-behind_free, free-from_none, is_ascending-remove, is_ascending-with_member, is_at, is_eq-is_at, with_member-free}
use Rattle.ec_lists.proofs.Integers.{int_le_lt-trans, int_le-trans}
use Rattle.ec_lists.proofs.Partitions.{IsCut, take-partition}

-- ---- filters of edited lists

-- a member that does not pass goes in unseen
pub filter-insert_other : {X : Type 0} (test : X → Bool) (x : X) → test x ≡ false → (xs : List X) (i : ℕ) → filter test (insert xs i x) ≡ filter test xs
filter-insert_other test x other [] zero = rw other refl
filter-insert_other test x other [] (suc i) = rw other refl
filter-insert_other test x other (y ∷ xs) zero = rw other refl
filter-insert_other test x other (y ∷ xs) (suc i) = ap (λ ys. cond (test y) (y ∷ ys) ys) (filter-insert_other test x other xs i)

-- one that passes is all that passes where none did
pub filter-insert_only : {X : Type 0} (test : X → Bool) (x : X) → test x ≡ true → (xs : List X) (i : ℕ) → filter test xs ≡ [] → filter test (insert xs i x) ≡ x ∷ []
filter-insert_only test x here [] zero none = rw here refl
filter-insert_only test x here [] (suc i) none = rw here refl
filter-insert_only test x here (y ∷ xs) zero none = rw here (ap (λ ys. x ∷ ys) none)
filter-insert_only test x here (y ∷ xs) (suc i) none =
    ⊎_elim (λ passes. let both : y ∷ filter test xs ≡ [] = ap (λ b. cond b (y ∷ filter test xs) (filter test xs)) (sym passes) ∙ none in cc)
    (λ fails. let rest : filter test xs ≡ [] = ap (λ b. cond b (y ∷ filter test xs) (filter test xs)) (sym fails) ∙ none in
    ap (λ b. cond b (y ∷ filter test (insert xs i x)) (filter test (insert xs i x))) fails ∙ filter-insert_only test x here xs i rest)
    (cases_Bool (test y))

-- a member that does not pass goes out unseen
pub filter-remove_other : {X : Type 0} (test : X → Bool) (xs : List X) (i : ℕ) (d : X) → test (get_or xs i d) ≡ false → filter test (remove xs i) ≡ filter test xs
filter-remove_other test [] zero d other = refl
filter-remove_other test [] (suc i) d other = refl
filter-remove_other test (x ∷ xs) zero d other = sym (ap (λ b. cond b (x ∷ filter test xs) (filter test xs)) other)
filter-remove_other test (x ∷ xs) (suc i) d other = ap (λ ys. cond (test x) (x ∷ ys) ys) (filter-remove_other test xs i d other)

-- and where the only one that passes goes out, none passes
pub filter-remove_only : {X : Type 0} (test : X → Bool) (xs : List X) (i : ℕ) (d only : X) → i < length xs → test (get_or xs i d) ≡ true → filter test xs ≡ only ∷ [] →
    filter test (remove xs i) ≡ []
filter-remove_only test [] i d only within here one = absurd (omega arith)
filter-remove_only test (x ∷ xs) zero d only within here one =
    let both : x ∷ filter test xs ≡ only ∷ [] = ap (λ b. cond b (x ∷ filter test xs) (filter test xs)) (sym here) ∙ one in cc
filter-remove_only {X = X} test (x ∷ xs) (suc i) d only within here one =
    ⊎_elim
    (λ passes. let both : x ∷ filter test xs ≡ only ∷ [] = ap (λ b. cond b (x ∷ filter test xs) (filter test xs)) (sym passes) ∙ one in
    let none : filter test xs ≡ [] = cc in absurd (nowhere xs i none (omega arith) here))
    (λ fails. let rest : filter test xs ≡ only ∷ [] = ap (λ b. cond b (x ∷ filter test xs) (filter test xs)) (sym fails) ∙ one in
    ap (λ b. cond b (x ∷ filter test (remove xs i)) (filter test (remove xs i))) fails ∙ filter-remove_only test xs i d only (omega arith) here rest)
    (cases_Bool (test x))
  where
    nowhere : (ys : List X) (j : ℕ) → filter test ys ≡ [] → j < length ys → test (get_or ys j d) ≡ true → ⊥
    nowhere [] j none within there = omega arith
    nowhere (y ∷ ys) zero none within there =
        let both : y ∷ filter test ys ≡ [] = ap (λ b. cond b (y ∷ filter test ys) (filter test ys)) (sym there) ∙ none in cc
    nowhere (y ∷ ys) (suc j) none within there =
        ⊎_elim (λ passes. let both : y ∷ filter test ys ≡ [] = ap (λ b. cond b (y ∷ filter test ys) (filter test ys)) (sym passes) ∙ none in cc)
        (λ fails. nowhere ys j (ap (λ b. cond b (y ∷ filter test ys) (filter test ys)) (sym fails) ∙ none) (omega arith) there) (cases_Bool (test y))

-- where none passes, none passes a stronger test
list_any-stronger : {X : Type 0} (test stronger : X → Bool) → ((x : X) → stronger x ≡ true → test x ≡ true) → (xs : List X) → filter test xs ≡ [] → list_any stronger xs ≡ false
list_any-stronger test stronger passes [] none = refl
list_any-stronger test stronger passes (x ∷ xs) none =
    ⊎_elim (λ here. let both : x ∷ filter test xs ≡ [] = ap (λ b. cond b (x ∷ filter test xs) (filter test xs)) (sym here) ∙ none in cc)
    (λ fails. let rest = list_any-stronger test stronger passes xs (ap (λ b. cond b (x ∷ filter test xs) (filter test xs)) (sym fails) ∙ none) in
    ⊎_elim (λ there. let both = passes x there in cc) (λ not. ap₂ (λ a b. a || b) not rest) (cases_Bool (stronger x)))
    (cases_Bool (test x))

-- the first that a filter keeps is a member
list_any-kept : {X : Type 0} (test other : X → Bool) (y : X) (ys xs : List X) → filter test xs ≡ y ∷ ys → other y ≡ true → list_any other xs ≡ true
list_any-kept test other y ys [] kept here = cc
list_any-kept test other y ys (x ∷ xs) kept here =
    ⊎_elim
    (λ passes. let both : x ∷ filter test xs ≡ y ∷ ys = ap (λ b. cond b (x ∷ filter test xs) (filter test xs)) (sym passes) ∙ kept in
    let same : x ≡ y = cc in ap (λ z. other z || list_any other xs) same ∙ ap (λ b. b || list_any other xs) here)
    (λ fails. ap (λ b. other x || b)
    (list_any-kept test other y ys xs (ap (λ b. cond b (x ∷ filter test xs) (filter test xs)) (sym fails) ∙ kept) here) ∙ or-true (other x))
    (cases_Bool (test x))

-- ---- the order

-- what dependents go by
abbrev Key : Type 0
Key = ℤ × (ℕ × ℕ)

abbrev key_cmp : Key → Key → Ordering
key_cmp a b = ordering_then (int_cmp a.0 b.0) (ordering_then (nat_cmp a.1.0 b.1.0) (nat_cmp a.1.1 b.1.1))

key_cmp-total : IsTotalOrder key_cmp
key_cmp-total =
    then_total (on_total (λ (k : Key). k.0) int_cmp_total) (then_total (on_total (λ (k : Key). k.1.0) nat_cmp_total) (on_total (λ (k : Key). k.1.1) nat_cmp_total))

-- two numbers compare as equal
nat_cmp-equal : (a b : ℕ) → is_eq (nat_cmp a b) ≡ true → (a == b) ≡ true
nat_cmp-equal a b = grind arith

nat_cmp-same : (a : ℕ) → nat_cmp a a ≡ Equal
nat_cmp-same a = grind arith

int_cmp-same : (a : ℤ) → int_cmp a a ≡ Equal
int_cmp-same a = grind (arith, ints)

-- what comes first by all three comes no later
pub no_later : (r s : ℤ) (o : Ordering) → is_lt (ordering_then (int_cmp r s) o) ≡ true → int_le r s ≡ true
no_later r s o = grind (arith, ints)

equal-parts : (r s o : Ordering) → is_eq (ordering_then r (ordering_then s o)) ≡ true → (is_eq s ≡ true) × (is_eq o ≡ true)
equal-parts Equal Equal Equal same = (refl, refl)
equal-parts Less s o same = cc
equal-parts Greater s o same = cc
equal-parts Equal Less o same = cc
equal-parts Equal Greater o same = cc
equal-parts Equal Equal Less same = cc
equal-parts Equal Equal Greater same = cc

first_same : (a b s p : ℕ) → ((a == s) && (b == p)) ≡ true → a ≡ s
first_same a b s p = grind arith

second_same : (a b s p : ℕ) → ((a == s) && (b == p)) ≡ true → b ≡ p
second_same a b s p = grind arith

both_pass : (a b : ℕ) → ((a == a) && (b == b)) ≡ true
both_pass a b = grind arith

module _ {T : Type 0} (d : Dependent T) where
  -- a dependent is from its own place
  pub is_from-itself : is_from d.slot.0 d.place d ≡ true
  is_from-itself = both_pass d.slot.0 d.place

  -- what is from the place of a dependent is from each place that the dependent is from
  of_place : (slot place : ℕ) (ds these : List (Dependent T)) → is_from slot place d ≡ true → from_place d.slot.0 d.place ds ≡ these → from_place slot place ds ≡ these
  of_place slot place ds these here are =
      let a = first_same d.slot.0 d.place slot place here in
      let b = second_same d.slot.0 d.place slot place here in
      subst (λ n. from_place slot n ds ≡ these) b (subst (λ n. from_place n d.place ds ≡ these) a are)

  -- two dependents of one place are from the same places
  same_place : (e : Dependent T) (slot place : ℕ) → is_from d.slot.0 d.place e ≡ true → is_from slot place e ≡ is_from slot place d
  same_place e slot place here =
      ap₂ (λ a b. (a == slot) && (b == place)) (first_same e.slot.0 e.place d.slot.0 d.place here) (second_same e.slot.0 e.place d.slot.0 d.place here)

module _ {T : Type 0} (rank : T → ℤ) where
  abbrev key_of : Dependent T → Key
  key_of d = (rank d.at, (d.slot.0, d.place))

  -- a member stands before a dependent, or behind it
  abbrev pub before : Dependent T → Dependent T → Bool
  before d e = dependent_before rank e d

  abbrev pub behind : Dependent T → Dependent T → Bool
  behind d e = dependent_before rank d e

  IsPlace-dependent : (d : Dependent T) → IsPlace (dependent_before rank) (before d) (behind d)
  IsPlace-dependent d = IsPlace-by_key key_cmp key_cmp-total key_of (key_of d)

  pub IsPartitionedBy-before : (d : Dependent T) (ds : List (Dependent T)) → AreInOrder rank ds → IsPartitionedBy (before d) ds
  IsPartitionedBy-before d ds order = IsPartitionedBy-ascending (dependent_before rank) (before d) (IsPlace-dependent d).keeps ds order

  pub IsPartitionedBy-up_to : (t : ℤ) (ds : List (Dependent T)) → AreInOrder rank ds → IsPartitionedBy (λ e. int_le (rank e.at) t) ds
  IsPartitionedBy-up_to t ds order =
      IsPartitionedBy-ascending (dependent_before rank) (λ e. int_le (rank e.at) t)
      (λ x y before. int_le-trans (rank x.at) (rank y.at) t (no_later (rank x.at) (rank y.at) (ordering_then (nat_cmp x.slot.0 y.slot.0) (nat_cmp x.place y.place)) before)) ds order

  pub IsPartitionedBy-earlier : (t : ℤ) (ds : List (Dependent T)) → AreInOrder rank ds → IsPartitionedBy (λ e. int_lt (rank e.at) t) ds
  IsPartitionedBy-earlier t ds order =
      IsPartitionedBy-ascending (dependent_before rank) (λ e. int_lt (rank e.at) t)
      (λ x y before. int_le_lt-trans (rank x.at) (rank y.at) t (no_later (rank x.at) (rank y.at) (ordering_then (nat_cmp x.slot.0 y.slot.0) (nat_cmp x.place y.place)) before)) ds order

  -- what stands where a dependent stands is from its place
  is_from-at : (d e : Dependent T) → is_at (before d) (behind d) e ≡ true → is_from d.slot.0 d.place e ≡ true
  is_from-at d e here =
      let same : is_eq (key_cmp (key_of e) (key_of d)) ≡ true = is_eq-is_at key_cmp key_cmp-total key_of (key_of d) e ∙ here in
      let parts = equal-parts (int_cmp (rank e.at) (rank d.at)) (nat_cmp e.slot.0 d.slot.0) (nat_cmp e.place d.place) same in
      ap₂ (λ a b. a && b) (nat_cmp-equal e.slot.0 d.slot.0 parts.0) (nat_cmp-equal e.place d.place parts.1)

  at-itself : (d : Dependent T) → is_at (before d) (behind d) d ≡ true
  at-itself d =
      sym (is_eq-is_at key_cmp key_cmp-total key_of (key_of d) d) ∙ rw (int_cmp-same (rank d.at), nat_cmp-same d.slot.0, nat_cmp-same d.place) refl

  module _ (d : Dependent T) (ds : List (Dependent T)) (i : ℕ) (order : AreInOrder rank ds) (cut : IsCut (before d) ds i) where
    -- a dependent goes in where none is from its place
    pub AreInOrder-insert : from_place d.slot.0 d.place ds ≡ [] → AreInOrder rank (insert ds i d)
    AreInOrder-insert none =
        let free = free-from_none (before d) (behind d) ds i cut (list_any-stronger (is_from d.slot.0 d.place) (is_at (before d) (behind d)) (is_from-at d) ds none) in
        let placed = with_member-free (dependent_before rank) d ds i (take-partition (before d) ds i cut)
        (sym (filter-behind_free (dependent_before rank) (before d) (behind d) (IsPlace-dependent d) ds i order cut free)) in
        subst (λ es. AreInOrder rank es) (sym placed) (is_ascending-with_member (dependent_before rank) (IsOrder-by_key key_cmp key_cmp-total key_of) d ds order)

    pub AreInOrder-remove : AreInOrder rank (remove ds i)
    AreInOrder-remove = is_ascending-remove (dependent_before rank) ds i order

    -- one that is there stands at the cut
    pub found : from_place d.slot.0 d.place ds ≡ d ∷ [] → (i < length ds) × ((e : Dependent T) → is_from d.slot.0 d.place (get_or ds i e) ≡ true)
    found one =
        let there = at-from_any (dependent_before rank) (before d) (behind d) (IsPlace-dependent d) ds i order cut
        (list_any-kept (is_from d.slot.0 d.place) (is_at (before d) (behind d)) d [] ds one (at-itself d)) in
        (there.0, λ e. is_from-at d (get_or ds i e) (both (before d (get_or ds i e)) (behind d (get_or ds i e)) (cut.1 i e (omega arith) there.0) (there.1 e)))
      where
        both : (a b : Bool) → a ≡ false → b ≡ false → (not a && not b) ≡ true
        both a b = grind arith

    -- what is from each place once it is in, and once it is out
    pub from_place-insert : from_place d.slot.0 d.place ds ≡ [] → (slot place : ℕ) →
        from_place slot place (insert ds i d) ≡ cond (is_from slot place d) (d ∷ []) (from_place slot place ds)
    from_place-insert none slot place =
        ⊎_elim
        (λ here. filter-insert_only (is_from slot place) d here ds i (of_place d slot place ds [] here none) ∙ sym (ap (λ b. cond b (d ∷ []) (from_place slot place ds)) here))
        (λ other. filter-insert_other (is_from slot place) d other ds i ∙ sym (ap (λ b. cond b (d ∷ []) (from_place slot place ds)) other))
        (cases_Bool (is_from slot place d))

    pub from_place-remove : from_place d.slot.0 d.place ds ≡ d ∷ [] → (slot place : ℕ) →
        from_place slot place (remove ds i) ≡ cond (is_from slot place d) [] (from_place slot place ds)
    from_place-remove one slot place =
        let there = found one in
        let same : is_from slot place (get_or ds i d) ≡ is_from slot place d = same_place d (get_or ds i d) slot place (there.1 d) in
        ⊎_elim
        (λ here. filter-remove_only (is_from slot place) ds i d d there.0 (same ∙ here) (of_place d slot place ds (d ∷ []) here one)
        ∙ sym (ap (λ b. cond b [] (from_place slot place ds)) here))
        (λ other. filter-remove_other (is_from slot place) ds i d (same ∙ other) ∙ sym (ap (λ b. cond b [] (from_place slot place ds)) other))
        (cases_Bool (is_from slot place d))
