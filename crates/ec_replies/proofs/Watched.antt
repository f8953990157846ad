-- What a session watches: it stands in term order, and is no more than it may be.
use Rattle.std.proofs.Common.{◌≡◌, ℕ, ◌<◌, ◌≤◌, ◌⊎◌, inl, inr, ◌+◌, Bool, true, false, not, cond, eqb, length, get_or, List, [], ◌∷◌, replicate, refl, sym, subst, arith, eqb-true}
use Rattle.std.specs.Prelude.{slice_set}
use Rattle.std.specs.Ordering.{is_lt}
use Rattle.std.proofs.lemmas.Bool.{cond_both, cases_lt}
use Rattle.std.proofs.lemmas.List.{get_or_past, length-set, get_or-set_same, get_or-set_other}
use Rattle.ec_lists.proofs.Numbers.{eqb-apart}
use Rattle.ec_lists.proofs.Filters.{length-filter_le}
use Rattle.ec_lists.proofs.Places.{get_or-copies}
use Rattle.ec_terms.specs.declared.ground.Ground.{Ground}
use Rattle.ec_terms.specs.Term.{term_eq, term_cmp}
use Rattle.ec_axioms.specs.Links.{with_property, in_term_order}
use Rattle.ec_axioms.proofs.Members.{IsPairwise, IsPairwise-filter}
use Rattle.ec_changes.proofs.KeptEvents.{same_from_members}
use Rattle.ec_changes.proofs.TermOrder.{IsBelow, IsBelow-itself, IsBelow-one_way, IsMember-from_in_term_order, IsMember-in_term_order, IsPairwise-in_term_order, IsPairwise-with_property}
use Rattle.ec_commands.specs.declared.limits.TheConstants.{MOST_WATCHED, SESSIONS}
use Rattle.ec_replies.specs.Replies.{without_property}
use Rattle.ec_replies.specs.RunLaws.{AreWatched}

-- ---- a member in the place of another

-- what is said of each member, and of the one that is read past the end, is said where another member is put
pub each-set : {A : Type 0} (P : A → Type 0) (xs : List A) (own k : ℕ) (a d : A) → ((i : ℕ) → P (get_or xs i d)) → P a → P d → P (get_or (slice_set xs own a) k d)
each-set {A} P xs own k a d each here past = by_same (eqb own k) refl
  where
    by_place : (own < length xs) ⊎ (length xs ≤ own) → P (get_or (slice_set xs own a) own d)
    by_place (inl within) = subst P (sym (get_or-set_same xs own a d within)) here
    by_place (inr behind) = subst P (sym (get_or_past (slice_set xs own a) own d (omega (arith, length-set xs own a)))) past

    by_same : (b : Bool) → eqb own k ≡ b → P (get_or (slice_set xs own a) k d)
    by_same true same = subst (λ (i : ℕ). P (get_or (slice_set xs own a) i d)) (eqb-true own k same) (by_place (cases_lt own (length xs)))
    by_same false other = subst P (sym (get_or-set_other xs own k a d (eqb-apart own k other))) (each k)

-- ---- in term order

-- properties that ascend stand in term order
in_term_order-ascending : (properties : List Ground) → IsPairwise IsBelow properties → in_term_order properties ≡ properties
in_term_order-ascending properties ascend =
    same_from_members IsBelow IsBelow-itself IsBelow-one_way (in_term_order properties) properties (IsPairwise-in_term_order properties) ascend
    (IsMember-from_in_term_order properties) (IsMember-in_term_order properties)

ascends : (watched : List Ground) → AreWatched watched → IsPairwise IsBelow watched
ascends watched are = subst (IsPairwise IsBelow) are.ordered (IsPairwise-in_term_order watched)

-- one property more
length-with_property : (p : Ground) (properties : List Ground) → length (with_property p properties) ≤ length properties + 1
length-with_property p [] = omega arith
length-with_property p (q ∷ properties) =
    let rest = length-with_property p properties in
    cond_both (term_eq p q) (q ∷ properties) (cond (is_lt (term_cmp p q)) (p ∷ q ∷ properties) (q ∷ with_property p properties))
    (λ list. length list ≤ length (q ∷ properties) + 1)
    (λ _. omega arith)
    (λ _. cond_both (is_lt (term_cmp p q)) (p ∷ q ∷ properties) (q ∷ with_property p properties)
    (λ list. length list ≤ length (q ∷ properties) + 1)
    (λ _. omega arith)
    (λ _. omega arith))

pub AreWatched-with : (p : Ground) (watched : List Ground) → length watched < MOST_WATCHED → AreWatched watched → AreWatched (with_property p watched)
AreWatched-with p watched room are = record {
  ordered = in_term_order-ascending (with_property p watched) (IsPairwise-with_property p watched (ascends watched are));
  few = let longer = length-with_property p watched in omega arith;
}

-- one property less
pub AreWatched-without : (p : Ground) (watched : List Ground) → AreWatched watched → AreWatched (without_property p watched)
AreWatched-without p watched are = record {
  ordered = in_term_order-ascending (without_property p watched) (IsPairwise-filter IsBelow (λ q. not (term_eq p q)) watched (ascends watched are));
  few = let shorter = length-filter_le (λ q. not (term_eq p q)) watched in let few = are.few in omega arith;
}

-- and none
pub AreWatched-none : AreWatched []
AreWatched-none = record { ordered = refl; few = omega arith }

pub none_watched : (session : ℕ) → get_or (replicate {A = List Ground} SESSIONS []) session [] ≡ []
none_watched session = get_or-copies SESSIONS session []
