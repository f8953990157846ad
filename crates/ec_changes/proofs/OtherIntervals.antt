-- Properties whose intervals differ between two lists, and how many they are.
use Rattle.std.proofs.Common.{◌≡◌, ◌⊎◌, ℤ, Bool, not, List, ◌++◌, filter, flat_map, Option, Some, None, IsTrue, refl, sym, ap, ap₂, subst, ◌∙◌, inl, inr, ⊎_elim, Decides}
use Rattle.std.specs.Cmp.Lexicographic.{pointwise}
use Rattle.std.specs.List.{list_any}
use Rattle.std.specs.Option.{option_eq}
use Rattle.std.specs.Ordering.{int_eq}
use Rattle.std.proofs.lemmas.Bool.{cases_Bool, or_cases, false≢true, false_from_ne_true, and_parts, and_from, not-false}
use Rattle.std.proofs.lemmas.List.Concat.{flat_map-append}
use Rattle.std.proofs.lemmas.Map.Made.{length-from_same_keys}
use Rattle.ec_terms.specs.declared.ground.Ground.{Ground}
use Rattle.ec_terms.specs.declared.theory.Theory.{Theory}
use Rattle.ec_terms.specs.Term.{term_eq}
use Rattle.ec_terms.specs.Domain.{is_initial}
use Rattle.ec_axioms.specs.Timeline.{Begin, before_all, begin_at, Interval}
use Rattle.ec_axioms.specs.Calculus.{PlainEvent, intervals_of}
use Rattle.ec_axioms.specs.Changes.{begin_eq, interval_eq, has_other_intervals, change_counts}
use Rattle.ec_axioms.specs.Links.{initial_properties, event_mentions, mentions_of, is_live, live_properties}
use Rattle.ec_axioms.proofs.Members.{IsMember, IsMember-filter, IsMember-from_filter, IsMember-append_right, IsMember-append_left}
use Rattle.ec_changes.specs.LiveLaws.{ListsInitials}
use Rattle.ec_changes.specs.CountLaws.{PropertiesInAnyList, OtherIntervalsDiffer}
use Rattle.ec_changes.proofs.LiveMarks.{not_live-unknown}
use Rattle.ec_changes.proofs.TermOrder.{IsMember-in_term_order, IsMember-from_test, test-IsMember}
use Rattle.std.proofs.lemmas.Bool.Decides.{Decides-int_eq}
use Rattle.std.proofs.lemmas.Slice.Eq.{slice_eq-Decides}
use Rattle.ec_changes.proofs.DistinctTerms.{IsDistinct-live_properties, term_eq-IsEquivalence}
use Rattle.ec_changes.proofs.DistinctLists.{IsDistinct-filter}

-- ---- equal intervals

-- the test of begins passes the same begins alone
begin_eq-Decides : (b c : Begin) → Decides (begin_eq b c) (b ≡ c)
begin_eq-Decides before_all before_all = (λ _. refl, λ _. refl)
begin_eq-Decides before_all (begin_at t) = (λ h. absurd (false≢true h), λ h. cc)
begin_eq-Decides (begin_at s) before_all = (λ h. absurd (false≢true h), λ h. cc)
begin_eq-Decides (begin_at s) (begin_at t) = (
  λ h. ap begin_at ((Decides-int_eq s t).0 h),
  λ h. let same : s ≡ t = cc in (Decides-int_eq s t).1 same,
)

-- that of ends the same ends
until_eq-Decides : (o q : Option ℤ) → Decides (option_eq int_eq o q) (o ≡ q)
until_eq-Decides None None = (λ _. refl, λ _. refl)
until_eq-Decides None (Some t) = (λ h. absurd (false≢true h), λ h. cc)
until_eq-Decides (Some s) None = (λ h. absurd (false≢true h), λ h. cc)
until_eq-Decides (Some s) (Some t) = (
  λ h. ap Some ((Decides-int_eq s t).0 h),
  λ h. let same : s ≡ t = cc in (Decides-int_eq s t).1 same,
)

-- so that of intervals the same intervals
pub interval_eq-Decides : (i j : Interval) → Decides (interval_eq i j) (i ≡ j)
interval_eq-Decides i j = (
  λ h.
      let both = and_parts (begin_eq i.from j.from) (option_eq int_eq i.until j.until) h in
      made i j ((begin_eq-Decides i.from j.from).0 both.0) ((until_eq-Decides i.until j.until).0 both.1),
  λ h. and_from _ _ ((begin_eq-Decides i.from j.from).1 (ap (λ (k : Interval). k.from) h)) ((until_eq-Decides i.until j.until).1 (ap (λ (k : Interval). k.until) h)),
)
  where
    made : (i j : Interval) → i.from ≡ j.from → i.until ≡ j.until → i ≡ j
    made i j begins ends =
        let interval : Begin → Option ℤ → Interval = λ begin until. record { from = begin; until = until } in
        ap (λ begin. interval begin i.until) begins ∙ ap (interval j.from) ends

-- and that of lists of intervals the same lists
pub intervals_eq-Decides : (xs ys : List Interval) → Decides (pointwise interval_eq xs ys) (xs ≡ ys)
intervals_eq-Decides xs ys = slice_eq-Decides interval_eq-Decides xs ys (pointwise interval_eq xs ys) refl

-- the law
pub OtherIntervalsDiffer-law : OtherIntervalsDiffer
unfolding has_other_intervals
OtherIntervalsDiffer-law theory old new p = (
  λ same. (intervals_eq-Decides (intervals_of theory old p) (intervals_of theory new p)).0 (not-false _ same),
  λ same. ap not ((intervals_eq-Decides (intervals_of theory old p) (intervals_of theory new p)).1 same),
)

-- ---- properties whose intervals differ

-- a property whose intervals differ is live in one of the lists
is_live-other_intervals : (theory : Theory) (old new : List PlainEvent) (p : Ground) → IsTrue (has_other_intervals theory old new p)
    → IsTrue (is_live theory old p) ⊎ IsTrue (is_live theory new p)
unfolding has_other_intervals
is_live-other_intervals theory old new p other =
    ⊎_elim inl
    (λ dead_old. ⊎_elim inr
    (λ dead_new.
    let none_old = (not_live-unknown theory old p dead_old).no_interval in
    let none_new = (not_live-unknown theory new p dead_new).no_interval in
    absurd (false≢true (sym (ap₂ (λ xs ys. not (pointwise interval_eq xs ys)) none_old none_new) ∙ other)))
    (cases_Bool (is_live theory new p)))
    (cases_Bool (is_live theory old p))

-- what is live in a list stands among its initial properties or its mentions
IsMember-from_live : (theory : Theory) (events : List PlainEvent) (p : Ground) → ListsInitials theory → IsTrue (is_live theory events p)
    → IsMember (initial_properties theory) p ⊎ IsMember (mentions_of theory events) p
unfolding is_live
IsMember-from_live theory events p names live =
    ⊎_elim (λ initial. inl (IsMember-from_test (initial_properties theory) p (sym (names p) ∙ initial)))
    (λ mentioned. inr (IsMember-from_test (mentions_of theory events) p mentioned))
    (or_cases (is_initial theory p) (list_any (term_eq p) (mentions_of theory events)) live)

-- so it stands among the live properties of both lists joined
in_live_properties : (theory : Theory) (old new : List PlainEvent) (p : Ground)
    → IsMember (initial_properties theory) p ⊎ (IsMember (mentions_of theory old) p ⊎ IsMember (mentions_of theory new) p)
    → IsTrue (list_any (term_eq p) (live_properties theory (old ++ new)))
unfolding live_properties mentions_of
in_live_properties theory old new p where_it_is =
    let initials = initial_properties theory in
    let joined = mentions_of theory (old ++ new) in
    let both : flat_map (event_mentions theory) (old ++ new) ≡ mentions_of theory old ++ mentions_of theory new = flat_map-append (event_mentions theory) old new in
    let mentioned : IsMember (mentions_of theory old ++ mentions_of theory new) p → IsMember joined p = subst (λ xs. IsMember xs p) (sym both) in
    test-IsMember (live_properties theory (old ++ new)) p
    (IsMember-in_term_order (initials ++ joined) p
    (⊎_elim (λ initial. IsMember-append_left initials joined p initial)
    (λ mention. IsMember-append_right initials joined p (mentioned (⊎_elim
    (λ in_old. IsMember-append_left (mentions_of theory old) (mentions_of theory new) p in_old)
    (λ in_new. IsMember-append_right (mentions_of theory old) (mentions_of theory new) p in_new) mention)))
    where_it_is))

-- a list that has each property that passes a test has it among those that pass exactly where it passes
test-filter : (test : Ground → Bool) (properties : List Ground) → ((p : Ground) → IsTrue (test p) → IsTrue (list_any (term_eq p) properties))
    → (p : Ground) → list_any (term_eq p) (filter test properties) ≡ test p
test-filter test properties has p =
    ⊎_elim
    (λ passes. test-IsMember (filter test properties) p (IsMember-filter test properties p (IsMember-from_test properties p (has p passes)) passes) ∙ sym passes)
    (λ fails. false_from_ne_true (list_any (term_eq p) (filter test properties))
    (λ there. false≢true (sym fails ∙ (IsMember-from_filter test properties p (IsMember-from_test (filter test properties) p there)).1)) ∙ sym fails)
    (cases_Bool (test p))

-- the law
pub PropertiesInAnyList-law : PropertiesInAnyList
unfolding change_counts
PropertiesInAnyList-law theory old new properties names once has =
    let other = has_other_intervals theory old new in
    let live = live_properties theory (old ++ new) in
    let has_live : (p : Ground) → IsTrue (other p) → IsTrue (list_any (term_eq p) live) =
    λ p differ. in_live_properties theory old new p (place p (is_live-other_intervals theory old new p differ)) in
    length-from_same_keys term_eq-IsEquivalence (filter other live) (filter other properties)
    (IsDistinct-filter term_eq other live (IsDistinct-live_properties theory (old ++ new))) (IsDistinct-filter term_eq other properties once)
    (λ p. test-filter other live has_live p ∙ sym (test-filter other properties has p))
  where
    place : (p : Ground) → IsTrue (is_live theory old p) ⊎ IsTrue (is_live theory new p)
        → IsMember (initial_properties theory) p ⊎ (IsMember (mentions_of theory old) p ⊎ IsMember (mentions_of theory new) p)
    place p (inl in_old) = ⊎_elim inl (λ mention. inr (inl mention)) (IsMember-from_live theory old p names in_old)
    place p (inr in_new) = ⊎_elim inl (λ mention. inr (inr mention)) (IsMember-from_live theory new p names in_new)
