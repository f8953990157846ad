-- Properties put in term order: which they are, and that their order follows from which they are.
use Rattle.std.proofs.Common.{◌≡◌, ◌⊎◌, ◌+◌, Bool, true, false, cond, ◌||◌, List, [], ◌∷◌, length, filter, IsTrue, IsFalse, refl, sym, ap, subst, ◌∙◌, inl, inr, ⊎_elim, arith}
use Rattle.std.specs.List.{list_any}
use Rattle.std.specs.Ordering.{is_lt, ordering_reverse}
use Rattle.std.specs.declared.cmp.Ordering.{Ordering}
use Rattle.std.specs.declared.cmp.Ordering.TheVariants.{Less, Equal, Greater}
use Rattle.std.proofs.lemmas.Bool.{cond_both, false≢true, false_from_ne_true}
use Rattle.std.proofs.lemmas.Cmp.{tied_itself}
use Rattle.ec_lists.proofs.Orderings.{Less-from_is_lt}
use Rattle.ec_terms.specs.declared.ground.Ground.{Ground}
use Rattle.ec_terms.specs.Term.{term_eq, term_cmp}
use Rattle.ec_terms.proofs.OrderLemmas.{term_cmp-total, term_cmp-Equal, term_eq-Decides}
use Rattle.ec_axioms.specs.Links.{with_property, in_term_order}
use Rattle.ec_axioms.proofs.Members.{IsMember, IsPairwise, list_any-member, member-list_any}
use Rattle.ec_changes.proofs.KeptEvents.{same_from_members}

-- a property stands before another in term order
abbrev pub IsBelow : Ground → Ground → Type 0
IsBelow p q = term_cmp p q ≡ Less

-- none is below itself
pub IsBelow-itself : (p : Ground) → IsBelow p p → ⊥
IsBelow-itself p below = let same = tied_itself term_cmp-total p in let apart : Less ≡ Equal = sym below ∙ same in cc

-- of two not both are below the other
pub IsBelow-one_way : (p q : Ground) → IsBelow p q → IsBelow q p → ⊥
IsBelow-one_way p q below above = IsBelow-itself p (term_cmp-total.trans p q p below above)

-- a property that is not another, and not below it, is above it
above_from : (p q : Ground) → IsFalse (term_eq p q) → IsFalse (is_lt (term_cmp p q)) → IsBelow q p
above_from p q different not_below = by_order (term_cmp p q) refl
  where
    by_order : (r : Ordering) → term_cmp p q ≡ r → IsBelow q p
    by_order Less is = absurd (false≢true (sym not_below ∙ ap is_lt is))
    by_order Equal is = absurd (false≢true (sym different ∙ (term_eq-Decides p q).1 ((term_cmp-Equal p q).0 is)))
    by_order Greater is = term_cmp-total.antisymm q p ∙ ap ordering_reverse is

-- ---- with one property more

-- the members are the new one and the old ones
pub IsMember-from_with_property : (p : Ground) (properties : List Ground) (q : Ground) → IsMember (with_property p properties) q → (p ≡ q) ⊎ IsMember properties q
IsMember-from_with_property p [] q = λ member. member
IsMember-from_with_property p (r ∷ properties) q =
    cond_both (term_eq p r) (r ∷ properties) (cond (is_lt (term_cmp p r)) (p ∷ r ∷ properties) (r ∷ with_property p properties))
    (λ list. IsMember list q → (p ≡ q) ⊎ IsMember (r ∷ properties) q)
    (λ _ member. inr member)
    (λ _. cond_both (is_lt (term_cmp p r)) (p ∷ r ∷ properties) (r ∷ with_property p properties)
    (λ list. IsMember list q → (p ≡ q) ⊎ IsMember (r ∷ properties) q)
    (λ _ member. member)
    (λ _. ⊎_elim (λ first. inr (inl first)) (λ later. ⊎_elim (λ new. inl new) (λ old. inr (inr old)) (IsMember-from_with_property p properties q later))))

-- each of them
pub IsMember-with_property : (p : Ground) (properties : List Ground) (q : Ground) → (p ≡ q) ⊎ IsMember properties q → IsMember (with_property p properties) q
IsMember-with_property p [] q member = member
IsMember-with_property p (r ∷ properties) q member =
    cond_both (term_eq p r) (r ∷ properties) (cond (is_lt (term_cmp p r)) (p ∷ r ∷ properties) (r ∷ with_property p properties))
    (λ list. IsMember list q)
    (λ same. ⊎_elim (λ new. inl (sym ((term_eq-Decides p r).0 same) ∙ new)) (λ old. old) member)
    (λ _. cond_both (is_lt (term_cmp p r)) (p ∷ r ∷ properties) (r ∷ with_property p properties)
    (λ list. IsMember list q)
    (λ _. member)
    (λ _. ⊎_elim (λ new. inr (IsMember-with_property p properties q (inl new)))
    (⊎_elim (λ first. inl first) (λ later. inr (IsMember-with_property p properties q (inr later)))) member))

-- they ascend
pub IsPairwise-with_property : (p : Ground) (properties : List Ground) → IsPairwise IsBelow properties → IsPairwise IsBelow (with_property p properties)
IsPairwise-with_property p [] ascend = (λ q member. absurd member, tt)
IsPairwise-with_property p (r ∷ properties) ascend =
    cond_both (term_eq p r) (r ∷ properties) (cond (is_lt (term_cmp p r)) (p ∷ r ∷ properties) (r ∷ with_property p properties))
    (IsPairwise IsBelow)
    (λ _. ascend)
    (λ different. cond_both (is_lt (term_cmp p r)) (p ∷ r ∷ properties) (r ∷ with_property p properties)
    (IsPairwise IsBelow)
    (λ below.
    let first : IsBelow p r = Less-from_is_lt (term_cmp p r) below in
    (λ q. ⊎_elim (λ same. subst (IsBelow p) same first) (λ later. term_cmp-total.trans p r q first (ascend.0 q later)), ascend))
    (λ not_below. (
      λ q member. ⊎_elim (λ new. subst (IsBelow r) new (above_from p r different not_below)) (λ old. ascend.0 q old) (IsMember-from_with_property p properties q member),
      IsPairwise-with_property p properties ascend.1,
    )))

-- ---- in term order

-- properties in term order ascend
pub IsPairwise-in_term_order : (properties : List Ground) → IsPairwise IsBelow (in_term_order properties)
IsPairwise-in_term_order [] = tt
IsPairwise-in_term_order (p ∷ properties) = IsPairwise-with_property p (in_term_order properties) (IsPairwise-in_term_order properties)

-- they are those that were put there
pub IsMember-from_in_term_order : (properties : List Ground) (q : Ground) → IsMember (in_term_order properties) q → IsMember properties q
IsMember-from_in_term_order [] q member = member
IsMember-from_in_term_order (p ∷ properties) q member =
    ⊎_elim (λ new. inl new) (λ old. inr (IsMember-from_in_term_order properties q old)) (IsMember-from_with_property p (in_term_order properties) q member)

-- all of them
pub IsMember-in_term_order : (properties : List Ground) (q : Ground) → IsMember properties q → IsMember (in_term_order properties) q
IsMember-in_term_order [] q member = member
IsMember-in_term_order (p ∷ properties) q (inl same) = IsMember-with_property p (in_term_order properties) q (inl same)
IsMember-in_term_order (p ∷ properties) q (inr later) = IsMember-with_property p (in_term_order properties) q (inr (IsMember-in_term_order properties q later))

-- so lists with the same members are the same in term order
pub in_term_order-same : (xs ys : List Ground) → ((q : Ground) → IsMember xs q → IsMember ys q) → ((q : Ground) → IsMember ys q → IsMember xs q)
    → in_term_order xs ≡ in_term_order ys
in_term_order-same xs ys into back =
    same_from_members IsBelow IsBelow-itself IsBelow-one_way (in_term_order xs) (in_term_order ys) (IsPairwise-in_term_order xs) (IsPairwise-in_term_order ys)
    (λ q member. IsMember-in_term_order ys q (into q (IsMember-from_in_term_order xs q member)))
    (λ q member. IsMember-in_term_order xs q (back q (IsMember-from_in_term_order ys q member)))

-- ---- tests of members

-- a property stands in a list exactly where the test says so
pub IsMember-from_test : (properties : List Ground) (p : Ground) → IsTrue (list_any (term_eq p) properties) → IsMember properties p
IsMember-from_test properties p there =
    let found = list_any-member (term_eq p) properties there in subst (IsMember properties) (sym ((term_eq-Decides p found.0).0 found.2)) found.1

pub test-IsMember : (properties : List Ground) (p : Ground) → IsMember properties p → IsTrue (list_any (term_eq p) properties)
test-IsMember properties p member = member-list_any (term_eq p) properties p member ((term_eq-Decides p p).1 refl)

-- a property below all of a list stands nowhere in it
not_below_all : (p : Ground) (properties : List Ground) → ((q : Ground) → IsMember properties q → IsBelow p q) → IsFalse (list_any (term_eq p) properties)
not_below_all p properties below =
    false_from_ne_true (list_any (term_eq p) properties) (λ there. IsBelow-itself p (below p (IsMember-from_test properties p there)))

-- one property more counts where it passes and did not stand there
pub length-filter-with_property : (test : Ground → Bool) (p : Ground) (properties : List Ground) → IsPairwise IsBelow properties
    → length (filter test (with_property p properties))
    ≡ length (filter test properties) + cond (list_any (term_eq p) properties) 0 (cond (test p) 1 0)
length-filter-with_property test p [] ascend = elim (test p) as (λ b. length (cond b (p ∷ []) []) ≡ 0 + cond b 1 0) [ true ↦ refl | false ↦ refl ]
length-filter-with_property test p (r ∷ properties) ascend =
    cond_both (term_eq p r) (r ∷ properties) (cond (is_lt (term_cmp p r)) (p ∷ r ∷ properties) (r ∷ with_property p properties))
    (λ list. length (filter test list) ≡ length (filter test (r ∷ properties)) + cond (term_eq p r || list_any (term_eq p) properties) 0 (cond (test p) 1 0))
    (λ same. let there : (term_eq p r || list_any (term_eq p) properties) ≡ true = grind arith in grind arith)
    (λ different. cond_both (is_lt (term_cmp p r)) (p ∷ r ∷ properties) (r ∷ with_property p properties)
    (λ list. length (filter test list) ≡ length (filter test (r ∷ properties)) + cond (term_eq p r || list_any (term_eq p) properties) 0 (cond (test p) 1 0))
    (λ below.
    let first : IsBelow p r = Less-from_is_lt (term_cmp p r) below in
    let absent = not_below_all p properties (λ q later. term_cmp-total.trans p r q first (ascend.0 q later)) in
    let nowhere : (term_eq p r || list_any (term_eq p) properties) ≡ false = grind arith in grind arith)
    (λ not_below. let rest = length-filter-with_property test p properties ascend.1 in grind arith))
