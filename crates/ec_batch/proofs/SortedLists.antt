-- Lists that are sorted and have no two members of one place: each member stands before those behind it.
use Rattle.std.proofs.Common.{◌≡◌, ℕ, ◌+◌, suc, Bool, true, false, cond, List, [], ◌∷◌, get_or, filter_map, Option, Some, None, IsTrue, IsFalse, refl, sym, ap, subst, ◌∙◌, inl, inr, arith}
use Rattle.std.specs.Prelude.{nat_lt, ◌==◌}
use Rattle.std.specs.Cmp.{IsStrictWeakOrder, IsTotalOrder}
use Rattle.std.specs.List.{cons_option}
use Rattle.std.specs.List.Sorted.{IsPermutation, IsSortedBy}
use Rattle.std.specs.Ordering.{is_lt, nat_cmp, ordering_reverse}
use Rattle.std.specs.declared.cmp.Ordering.{Ordering}
use Rattle.std.specs.declared.cmp.Ordering.TheVariants.{Less, Equal, Greater}
use Rattle.std.proofs.lemmas.Bool.{false≢true}
use Rattle.std.proofs.lemmas.List.Sorted.{Contains-permutation, IsPermutation-sym, ranks_by, sorted_far}
use Rattle.std.proofs.lemmas.Map.Keys.{IsDistinct-IsPermutation}
use Rattle.ec_axioms.proofs.Members.{Contains-from_member, IsMember, IsMember-from_contains, IsMember-from_filter_map, IsPairwise}
use Rattle.ec_changes.proofs.DistinctLists.{IsDistinct-from_pairwise, IsPairwise-from_distinct}

-- ---- members

-- a member stays one where members change places
pub IsMember-moved : {X : Type 0} (xs ys : List X) (x : X) → IsPermutation xs ys → IsMember xs x → IsMember ys x
IsMember-moved xs ys x moved member = IsMember-from_contains ys x (Contains-permutation xs ys x moved (Contains-from_member xs x member))

pub IsMember-moved_back : {X : Type 0} (xs ys : List X) (x : X) → IsPermutation xs ys → IsMember ys x → IsMember xs x
IsMember-moved_back xs ys x moved member = IsMember-moved ys xs x (IsPermutation-sym xs ys moved) member

-- what a function gives at a member is a member of what it gives
pub IsMember-filter_map : {X Y : Type 0} (h : X → Option Y) (xs : List X) (x : X) (y : Y) → IsMember xs x → h x ≡ Some y → IsMember (filter_map h xs) y
IsMember-filter_map h [] x y member is = absurd member
IsMember-filter_map h (z ∷ xs) x y (inl same) is = subst (λ o. IsMember (cons_option o (filter_map h xs)) y) (sym (ap h same ∙ is)) (inl refl)
IsMember-filter_map {X} {Y} h (z ∷ xs) x y (inr later) is =
    let rest = IsMember-filter_map h xs x y later is in
    elim (h z) as (λ o. IsMember (cons_option o (filter_map h xs)) y) [ None ↦ rest | Some w ↦ inr rest ]

-- members that stand in a relation give members that do
pub IsPairwise-filter_map : {X Y : Type 0} (R : X → X → Type 0) (S : Y → Y → Type 0) (h : X → Option Y) (xs : List X) → IsPairwise R xs
    → ((x y : X) (a b : Y) → IsMember xs x → IsMember xs y → R x y → h x ≡ Some a → h y ≡ Some b → S a b) → IsPairwise S (filter_map h xs)
IsPairwise-filter_map R S h [] pairs follows = tt
IsPairwise-filter_map {X} {Y} R S h (x ∷ xs) pairs follows =
    let rest : IsPairwise S (filter_map h xs) = IsPairwise-filter_map R S h xs pairs.1 (λ y z a b left right. follows y z a b (inr left) (inr right)) in
    by_value (h x) refl rest
  where
    by_value : (o : Option Y) → h x ≡ o → IsPairwise S (filter_map h xs) → IsPairwise S (cons_option o (filter_map h xs))
    by_value None is rest = rest
    by_value (Some a) is rest = (
      λ b member. let from = IsMember-from_filter_map h xs b member in follows x from.0 a b (inl refl) (inr from.1) (pairs.0 from.0 from.1) is from.2,
      rest,
    )

-- members that are apart stay so where they change places
pub apart_moved : {X : Type 0} (same : X → X → Bool) → ((x y : X) → same x y ≡ same y x) → (xs ys : List X) → IsPermutation xs ys
    → IsPairwise (λ x y. IsFalse (same x y)) xs → IsPairwise (λ x y. IsFalse (same x y)) ys
apart_moved same flips xs ys moved apart = IsPairwise-from_distinct same ys (IsDistinct-IsPermutation same flips xs ys moved (IsDistinct-from_pairwise same xs apart))

-- ---- order

-- in a sorted list nothing is less than what stands in front of it
IsPairwise-from_sorted : {X : Type 0} (lt : X → X → Bool) → IsStrictWeakOrder lt → (xs : List X) → IsSortedBy lt xs → IsPairwise (λ x y. lt y x ≡ false) xs
IsPairwise-from_sorted lt laws [] up = tt
IsPairwise-from_sorted {X} lt laws (x ∷ xs) up = (
  λ y later. let at = Contains-from_member xs y later in let within = at.1 in
      subst (λ z. lt z x ≡ false) at.2 (sorted_far lt laws (x ∷ xs) up 0 (suc at.0) y (omega arith) (omega arith)),
  IsPairwise-from_sorted lt laws xs (λ k d low high. subst (λ m. lt (get_or (x ∷ xs) m d) (get_or xs k d) ≡ false) (next k) (up (suc k) d (omega arith) (omega arith))),
)
  where
    next : (k : ℕ) → suc k + 1 ≡ suc (k + 1)
    next k = omega arith

module _ {K X : Type 0} (compare : K → K → Ordering) (total : IsTotalOrder compare) (key : X → K) where
  -- what is not behind another, nor at its place, is before it
  before_from_not_behind : (x y : X) → is_lt (compare (key y) (key x)) ≡ false → (compare (key x) (key y) ≡ Equal → ⊥) → is_lt (compare (key x) (key y)) ≡ true
  before_from_not_behind x y not_behind apart = by_answer (compare (key x) (key y)) refl
    where
      by_answer : (o : Ordering) → compare (key x) (key y) ≡ o → is_lt o ≡ true
      by_answer Less is = refl
      by_answer Equal is = absurd (apart is)
      by_answer Greater is = absurd (false≢true (sym not_behind ∙ ap is_lt (total.antisymm (key y) (key x) ∙ ap ordering_reverse is)))

  -- so it is for the members of a sorted list, where no two have one place
  pub IsPairwise-sorted_by : (xs : List X) → IsSortedBy (λ x y. is_lt (compare (key x) (key y))) xs → IsPairwise (λ x y. compare (key x) (key y) ≡ Equal → ⊥) xs
      → IsPairwise (λ x y. IsTrue (is_lt (compare (key x) (key y)))) xs
  IsPairwise-sorted_by xs up apart = joined xs (IsPairwise-from_sorted _ (ranks_by total key) xs up) apart
    where
      joined : (ys : List X) → IsPairwise (λ x y. is_lt (compare (key y) (key x)) ≡ false) ys → IsPairwise (λ x y. compare (key x) (key y) ≡ Equal → ⊥) ys
          → IsPairwise (λ x y. IsTrue (is_lt (compare (key x) (key y)))) ys
      joined [] first second = tt
      joined (y ∷ ys) first second = (λ z later. before_from_not_behind y z (first.0 z later) (second.0 z later), joined ys first.1 second.1)

-- less, as an answer of a comparison
pub nat_lt-cmp : (m n : ℕ) → nat_lt m n ≡ is_lt (nat_cmp m n)
nat_lt-cmp m n = by_tests (nat_lt m n) (m == n)
  where
    by_tests : (a b : Bool) → a ≡ is_lt (cond a Less (cond b Equal Greater))
    by_tests true b = refl
    by_tests false true = refl
    by_tests false false = refl
