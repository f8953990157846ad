-- The list of clashes: the place of one, and what an edit leaves.
use Rattle.std.proofs.Common.{◌≡◌, ℕ, ℤ, ◌<◌, ◌≤◌, zero, suc, Bool, true, false, not, cond, ◌&&◌, ◌||◌, List, [], ◌∷◌, length, filter, drop, get_or, Some, refl, sym, ap, ap₂, subst, ◌∙◌, ⊎_elim, arith}
use Rattle.std.specs.Prelude.{◌==◌, int_le, int_lt, slice_get}
use Rattle.std.specs.Cmp.{IsTotalOrder}
use Rattle.std.specs.declared.cmp.Ordering.{Ordering}
use Rattle.std.specs.Ordering.{int_cmp, nat_cmp, int_eq, is_lt, is_eq, ordering_then}
use Rattle.std.specs.List.{list_any, insert, remove}
use Rattle.std.specs.List.Sorted.{IsPartitionedBy}
use Rattle.std.proofs.lemmas.Bool.{cases_Bool, eqb-true}
use Rattle.std.proofs.lemmas.Cmp.{int_cmp_total, nat_cmp_total, on_total, then_total}
use Rattle.std.proofs.lemmas.Int.{ints}
use Rattle.std.proofs.lemmas.Option.{get_or_from_slice_get}
use Rattle.ec_lists.proofs.Booleans.{and-left, and-right, or_left_comm}
use Rattle.ec_lists.proofs.Integers.{int_eq-is, int_lt-not_le}
use Rattle.ec_lists.proofs.Partitions.{IsCut, take-partition, drop-partition}
use Rattle.ec_lists.proofs.Tests.{list_any-same}
use Rattle.std.proofs.lemmas.List.Elements.{filter_agree}
use Rattle.ec_rows.proofs.OrderedLemmas.{IsPlace, IsPlace-by_key, IsOrder-by_key, IsPartitionedBy-ascending, is_at, is_eq-is_at, filter-behind_free, filter-not_at, free-from_none, list_any-at, list_any-free, is_ascending-filter, is_ascending-with_member, with_member-free}
use Rattle.ec_points.specs.declared.clashes.Clash.{Clash}
use Rattle.ec_points.specs.Clashes.{are_clashes, clash_cmp, has_clash, is_clash_of}

-- ---- edits of a list, as a test sees them

pub list_any-insert : {X : Type 0} (test : X → Bool) (x : X) (xs : List X) (i : ℕ) → list_any test (insert xs i x) ≡ (test x || list_any test xs)
list_any-insert test x [] zero = refl
list_any-insert test x [] (suc i) = refl
list_any-insert test x (y ∷ xs) zero = refl
list_any-insert test x (y ∷ xs) (suc i) = ap (λ b. test y || b) (list_any-insert test x xs i) ∙ or_left_comm (test y) (test x) (list_any test xs)

-- ---- the order

-- what clashes go by
abbrev Key : Type 0
Key = ℤ × ℕ

abbrev key_cmp : Key → Key → Ordering
key_cmp a b = ordering_then (int_cmp a.0 b.0) (nat_cmp a.1 b.1)

key_cmp-total : IsTotalOrder key_cmp
key_cmp-total = then_total (on_total (λ (k : Key). k.0) int_cmp_total) (on_total (λ (k : Key). k.1) nat_cmp_total)

is_same-is_eq : (a b : ℤ) (m n : ℕ) → ((m == n) && int_eq a b) ≡ is_eq (ordering_then (int_cmp a b) (nat_cmp m n))
is_same-is_eq a b m n = grind (arith, ints)

up_to-before : (a b t : ℤ) (o : Ordering) → is_lt (ordering_then (int_cmp a b) o) ≡ true → int_le b t ≡ true → int_le a t ≡ true
up_to-before a b t o = grind (arith, ints)

module _ {T : Type 0} (rank : T → ℤ) where
  abbrev key_of : Clash T → Key
  key_of c = (rank c.at, c.p.0)

  abbrev stands_before : Clash T → Clash T → Bool
  stands_before c d = is_lt (clash_cmp rank c d)

  -- the clashes up to a time come first
  pub IsPartitionedBy-up_to : (t : ℤ) (cs : List (Clash T)) → are_clashes rank cs ≡ true → IsPartitionedBy (λ c. int_le (rank c.at) t) cs
  IsPartitionedBy-up_to t cs order =
      IsPartitionedBy-ascending stands_before (λ c. int_le (rank c.at) t)
      (λ x y. up_to-before (rank x.at) (rank y.at) t (nat_cmp x.p.0 y.p.0)) cs order

  -- and what follows them is after it
  pub drop-up_to : (t : ℤ) (cs : List (Clash T)) (i : ℕ) → IsCut (λ c. int_le (rank c.at) t) cs i → drop i cs ≡ filter (λ c. int_lt t (rank c.at)) cs
  drop-up_to t cs i cut = drop-partition (λ c. int_le (rank c.at) t) (λ c. int_lt t (rank c.at)) (λ c. int_lt-not_le t (rank c.at)) cs i cut

  module _ (x : Clash T) where
    abbrev pub before : Clash T → Bool
    before c = stands_before c x

    abbrev behind : Clash T → Bool
    behind c = stands_before x c

    IsPlace-clash : IsPlace stands_before before behind
    IsPlace-clash = IsPlace-by_key key_cmp key_cmp-total key_of (key_of x)

    pub IsPartitionedBy-before : (cs : List (Clash T)) → are_clashes rank cs ≡ true → IsPartitionedBy before cs
    IsPartitionedBy-before cs order = IsPartitionedBy-ascending stands_before before IsPlace-clash.keeps cs order

    same-is_at : (c : Clash T) → is_eq (clash_cmp rank c x) ≡ is_at before behind c
    same-is_at c = is_eq-is_at key_cmp key_cmp-total key_of (key_of x) c

    any-is_at : (cs : List (Clash T)) → has_clash rank x.p.0 (rank x.at) cs ≡ list_any (is_at before behind) cs
    any-is_at cs =
        list_any-same (is_clash_of rank x.p.0 (rank x.at)) (is_at before behind) (λ c. is_same-is_eq (rank c.at) (rank x.at) c.p.0 x.p.0 ∙ same-is_at c) cs

    module _ (cs : List (Clash T)) (i : ℕ) (order : are_clashes rank cs ≡ true) (cut : IsCut before cs i) where
      -- the list ends at the cut
      pub has_clash-end : length cs ≤ i → has_clash rank x.p.0 (rank x.at) cs ≡ false
      has_clash-end end = any-is_at cs ∙ list_any-free stands_before before behind IsPlace-clash cs i order cut (λ d within. absurd (omega arith))

      -- another stands at the cut
      pub has_clash-other : (c : Clash T) → slice_get cs i ≡ Some c → is_eq (clash_cmp rank c x) ≡ false → has_clash rank x.p.0 (rank x.at) cs ≡ false
      has_clash-other c read other =
          any-is_at cs ∙ list_any-free stands_before before behind IsPlace-clash cs i order cut
          (λ d within. ap behind (get_or_from_slice_get cs i c d read)
          ∙ neither (before c) (behind c) (sym (same-is_at c) ∙ other) (ap before (sym (get_or_from_slice_get cs i c d read)) ∙ cut.1 i d (omega arith) within))
        where
          neither : (a b : Bool) → (not a && not b) ≡ false → a ≡ false → b ≡ true
          neither a b = grind arith

      -- it stands at the cut itself
      not_behind : (c : Clash T) → is_eq (clash_cmp rank c x) ≡ true → behind c ≡ false
      not_behind c same = from_both (before c) (behind c) (sym (same-is_at c) ∙ same)
        where
          from_both : (a b : Bool) → (not a && not b) ≡ true → b ≡ false
          from_both a b = grind arith

      pub has_clash-here : i < length cs → (c : Clash T) → slice_get cs i ≡ Some c → is_eq (clash_cmp rank c x) ≡ true → has_clash rank x.p.0 (rank x.at) cs ≡ true
      has_clash-here within c read same =
          any-is_at cs ∙ list_any-at stands_before before behind IsPlace-clash cs i x cut within (ap behind (get_or_from_slice_get cs i c x read) ∙ not_behind c same)

      pub remove-here : i < length cs → (c : Clash T) → slice_get cs i ≡ Some c → is_eq (clash_cmp rank c x) ≡ true →
          remove cs i ≡ filter (λ d. not (is_eq (clash_cmp rank d x))) cs
      remove-here within c read same =
          sym (filter-not_at stands_before before behind IsPlace-clash cs i x order cut within (ap behind (get_or_from_slice_get cs i c x read) ∙ not_behind c same))
          ∙ sym (filter_agree (λ d. not (is_eq (clash_cmp rank d x))) (λ d. not (is_at before behind d)) (λ d. ap not (same-is_at d)) cs)

      -- where it is new, it goes in at the cut
      pub are_clashes-insert : has_clash rank x.p.0 (rank x.at) cs ≡ false → are_clashes rank (insert cs i x) ≡ true
      are_clashes-insert absent =
          let free : (d : Clash T) → i < length cs → behind (get_or cs i d) ≡ true = free-from_none before behind cs i cut (sym (any-is_at cs) ∙ absent) in
          let placed = with_member-free stands_before x cs i (take-partition before cs i cut)
          (sym (filter-behind_free stands_before before behind IsPlace-clash cs i order cut free)) in
          subst (λ ds. are_clashes rank ds ≡ true) (sym placed) (is_ascending-with_member stands_before (IsOrder-by_key key_cmp key_cmp-total key_of) x cs order)

    -- a list without it
    pub are_clashes-without : (cs : List (Clash T)) → are_clashes rank cs ≡ true → are_clashes rank (filter (λ d. not (is_eq (clash_cmp rank d x))) cs) ≡ true
    are_clashes-without cs order = is_ascending-filter stands_before (λ d. not (is_eq (clash_cmp rank d x))) cs order

    -- the clash at a place is there already where it is there
    pub has_clash-again : (cs : List (Clash T)) → has_clash rank x.p.0 (rank x.at) cs ≡ true → (n : ℕ) (t : ℤ) →
        has_clash rank n t cs ≡ (is_clash_of rank n t x || has_clash rank n t cs)
    has_clash-again cs there n t = from_case (is_clash_of rank n t x) (has_clash rank n t cs) same
      where
        same : is_clash_of rank n t x ≡ true → has_clash rank n t cs ≡ true
        same e =
            let number : x.p.0 ≡ n = eqb-true x.p.0 n (and-left (x.p.0 == n) (int_eq (rank x.at) t) e) in
            let time : rank x.at ≡ t = int_eq-is (rank x.at) t (and-right (x.p.0 == n) (int_eq (rank x.at) t) e) in
            sym (ap₂ (λ m u. has_clash rank m u cs) number time) ∙ there

        from_case : (a b : Bool) → (a ≡ true → b ≡ true) → b ≡ (a || b)
        from_case true b f = f refl
        from_case false b f = refl

    -- and where it is not there, none has to go
    pub has_clash-absent : (cs : List (Clash T)) → has_clash rank x.p.0 (rank x.at) cs ≡ false → (n : ℕ) (t : ℤ) →
        has_clash rank n t cs ≡ (not (is_clash_of rank n t x) && has_clash rank n t cs)
    has_clash-absent cs absent n t = from_case (is_clash_of rank n t x) (has_clash rank n t cs) same
      where
        same : is_clash_of rank n t x ≡ true → has_clash rank n t cs ≡ false
        same e =
            let number : x.p.0 ≡ n = eqb-true x.p.0 n (and-left (x.p.0 == n) (int_eq (rank x.at) t) e) in
            let time : rank x.at ≡ t = int_eq-is (rank x.at) t (and-right (x.p.0 == n) (int_eq (rank x.at) t) e) in
            sym (ap₂ (λ m u. has_clash rank m u cs) number time) ∙ absent

        from_case : (a b : Bool) → (a ≡ true → b ≡ false) → b ≡ (not a && b)
        from_case true b f = f refl
        from_case false b f = refl

    -- what is left where it went
    pub has_clash-without : (n : ℕ) (t : ℤ) (cs : List (Clash T)) →
        has_clash rank n t (filter (λ d. not (is_eq (clash_cmp rank d x))) cs) ≡ (not (is_clash_of rank n t x) && has_clash rank n t cs)
    has_clash-without n t [] = none (is_clash_of rank n t x)
      where
        none : (a : Bool) → false ≡ (not a && false)
        none a = grind arith
    has_clash-without n t (c ∷ cs) =
        let ih = has_clash-without n t cs in
        ⊎_elim
        (λ same. ap (λ b. has_clash rank n t (cond (not b) (c ∷ rest) rest)) same ∙ ih
        ∙ gone (is_clash_of rank n t x) (is_clash_of rank n t c) (has_clash rank n t cs) (like (rank c.at) (rank x.at) t c.p.0 x.p.0 n same))
        (λ other. ap (λ b. has_clash rank n t (cond (not b) (c ∷ rest) rest)) other ∙ ap (λ b. is_clash_of rank n t c || b) ih
        ∙ stays (is_clash_of rank n t x) (is_clash_of rank n t c) (has_clash rank n t cs) (unlike (rank c.at) (rank x.at) t c.p.0 x.p.0 n other))
        (cases_Bool (is_eq (clash_cmp rank c x)))
      where
        rest : List (Clash T)
        rest = filter (λ d. not (is_eq (clash_cmp rank d x))) cs

        gone : (a b r : Bool) → b ≡ a → (not a && r) ≡ (not a && (b || r))
        gone a b r = grind arith

        stays : (a b r : Bool) → (a && b) ≡ false → (b || (not a && r)) ≡ (not a && (b || r))
        stays a b r = grind arith

        like : (a b s : ℤ) (k m n : ℕ) → is_eq (ordering_then (int_cmp a b) (nat_cmp k m)) ≡ true → ((k == n) && int_eq a s) ≡ ((m == n) && int_eq b s)
        like a b s k m n = grind (arith, ints)

        unlike : (a b s : ℤ) (k m n : ℕ) → is_eq (ordering_then (int_cmp a b) (nat_cmp k m)) ≡ false → (((m == n) && int_eq b s) && ((k == n) && int_eq a s)) ≡ false
        unlike a b s k m n = grind (arith, ints)
