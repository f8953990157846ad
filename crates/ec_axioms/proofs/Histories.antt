-- A history stays one under updates: an event of a new identity in its place, or an event less.
use Rattle.std.proofs.Common.{◌≡◌, ℕ, Bool, true, false, cond, not, ◌&&◌, ◌||◌, List, [], ◌∷◌, ◌⊎◌, ℤ, IsTrue, IsFalse, refl, sym, ap, subst, ◌∙◌, inl, inr, ⊎_elim}
use Rattle.std.specs.Prelude.{int_lt, filter, bytes_eq}
use Rattle.std.specs.List.{list_all}
use Rattle.std.specs.Ordering.{int_eq, is_lt, ordering_reverse}
use Rattle.std.specs.declared.cmp.Ordering.{Ordering}
use Rattle.std.specs.declared.cmp.Ordering.TheVariants.{Less, Equal, Greater}
use Rattle.std.proofs.lemmas.Cmp.{nat_list_cmp_total}
use Rattle.std.specs.FinMap.{nat_cmp-IsAntisymmetric, slice_cmp-IsAntisymmetric}
use Rattle.std.proofs.lemmas.Bool.{and_parts, and_from, or_cases, or_parts, or_from, or_left, or_right, not-true, not_from_false, false≢true}
use Rattle.std.proofs.lemmas.Slice.Eq.{bytes_eq-Decides}
use Rattle.ec_lists.proofs.Numbers.{bytes_eq_comm}
use Rattle.ec_lists.proofs.Orderings.{Less-from_is_lt}
use Rattle.ec_lists.proofs.Tests.{list_any-filter_none}
use Rattle.ec_terms.specs.Term.{name_cmp}
use Rattle.ec_axioms.specs.Calculus.{PlainEvent}
use Rattle.ec_axioms.specs.Changes.{has_id, comes_before, is_history, with_event, without_event}
use Rattle.ec_lists.proofs.Integers.{int_lt-trans, int_eq-is, int_eq-same, cases_int}
use Rattle.ec_axioms.proofs.Members.{list_all-member, list_all-from_members, IsMember-from_filter}

-- ---- the order of events

-- one event is before the other in time, or at the same time with a lesser identity
abbrev IsBefore : PlainEvent → PlainEvent → Type 0
IsBefore e f = IsTrue (int_lt e.rank f.rank) ⊎ ((e.rank ≡ f.rank) × (name_cmp e.id f.id ≡ Less))

IsBefore-from : (e f : PlainEvent) → IsTrue (comes_before e f) → IsBefore e f
unfolding comes_before
IsBefore-from e f before =
    ⊎_elim inl (λ at_once. let parts = and_parts (int_eq e.rank f.rank) (is_lt (name_cmp e.id f.id)) at_once in inr (int_eq-is e.rank f.rank parts.0, Less-from_is_lt (name_cmp e.id f.id) parts.1))
    (or_cases (int_lt e.rank f.rank) (int_eq e.rank f.rank && is_lt (name_cmp e.id f.id)) before)

comes_before-from : (e f : PlainEvent) → IsBefore e f → IsTrue (comes_before e f)
unfolding comes_before
comes_before-from e f (inl before) = or_left (int_lt e.rank f.rank) (int_eq e.rank f.rank && is_lt (name_cmp e.id f.id)) before
comes_before-from e f (inr at_once) =
    or_right (int_lt e.rank f.rank) (int_eq e.rank f.rank && is_lt (name_cmp e.id f.id))
    (and_from (int_eq e.rank f.rank) (is_lt (name_cmp e.id f.id)) (subst (λ (r : ℤ). IsTrue (int_eq e.rank r)) at_once.0 (int_eq-same e.rank)) (ap is_lt at_once.1))

-- before what is before is before
pub comes_before-trans : (e f g : PlainEvent) → IsTrue (comes_before e f) → IsTrue (comes_before f g) → IsTrue (comes_before e g)
comes_before-trans e f g before after = comes_before-from e g (both (IsBefore-from e f before) (IsBefore-from f g after))
  where
    both : IsBefore e f → IsBefore f g → IsBefore e g
    both (inl first) (inl second) = inl (int_lt-trans e.rank f.rank g.rank first second)
    both (inl first) (inr second) = inl (subst (λ (r : ℤ). IsTrue (int_lt e.rank r)) second.0 first)
    both (inr first) (inl second) = inl (subst (λ (r : ℤ). IsTrue (int_lt r g.rank)) (sym first.0) second)
    both (inr first) (inr second) = inr (first.0 ∙ second.0, nat_list_cmp_total.trans e.id f.id g.id first.1 second.1)

-- of two events with different identities one comes before the other
pub comes_before-total : (e f : PlainEvent) → IsFalse (bytes_eq e.id f.id) → IsFalse (comes_before e f) → IsTrue (comes_before f e)
comes_before-total e f different not_before = comes_before-from f e (by_rank (cases_int e.rank f.rank))
  where
    not_here : IsBefore e f → IsBefore f e
    not_here before = absurd (false≢true (sym not_before ∙ comes_before-from e f before))

    by_name : (r : Ordering) → e.rank ≡ f.rank → name_cmp e.id f.id ≡ r → IsBefore f e
    by_name Less at_once is = not_here (inr (at_once, is))
    by_name Equal at_once is =
        absurd (false≢true (sym different ∙ (bytes_eq-Decides e.id f.id).1 (slice_cmp-IsAntisymmetric nat_cmp-IsAntisymmetric e.id f.id is)))
    by_name Greater at_once is = inr (sym at_once, nat_list_cmp_total.antisymm f.id e.id ∙ ap ordering_reverse is)

    by_rank : (e.rank ≡ f.rank) ⊎ (IsTrue (int_lt e.rank f.rank) ⊎ IsTrue (int_lt f.rank e.rank)) → IsBefore f e
    by_rank (inl at_once) = by_name (name_cmp e.id f.id) at_once refl
    by_rank (inr (inl before)) = not_here (inl before)
    by_rank (inr (inr after)) = inl after

-- ---- updates

-- an identity that is not the event's and is absent is absent from the list with the event
pub has_id-with_event : (id : List ℕ) (e : PlainEvent) (events : List PlainEvent) → IsFalse (bytes_eq e.id id) → IsFalse (has_id id events)
    → IsFalse (has_id id (with_event e events))
unfolding has_id with_event
has_id-with_event id e [] other absent = or_from (bytes_eq e.id id) false other refl
has_id-with_event id e (f ∷ events) other absent =
    by_place (comes_before e f) (has_id-with_event id e events other (or_parts (bytes_eq f.id id) (has_id id events) absent).1)
  where
    by_place : (before : Bool) → IsFalse (has_id id (with_event e events)) → IsFalse (has_id id (cond before (e ∷ f ∷ events) (f ∷ with_event e events)))
    by_place true rest = or_from (bytes_eq e.id id) (bytes_eq f.id id || has_id id events) other absent
    by_place false rest =
        or_from (bytes_eq f.id id) (has_id id (with_event e events)) (or_parts (bytes_eq f.id id) (has_id id events) absent).0 rest

-- what passes at the event and at each of a list passes at each of the list with the event
pub list_all-with_event : (p : PlainEvent → Bool) (e : PlainEvent) (events : List PlainEvent) → IsTrue (p e) → IsTrue (list_all p events)
    → IsTrue (list_all p (with_event e events))
unfolding with_event
list_all-with_event p e [] here all = and_from (p e) true here refl
list_all-with_event p e (f ∷ events) here all =
    by_place (comes_before e f) (and_parts (p f) (list_all p events) all) (list_all-with_event p e events here (and_parts (p f) (list_all p events) all).1)
  where
    by_place : (before : Bool) → IsTrue (p f) × IsTrue (list_all p events) → IsTrue (list_all p (with_event e events))
        → IsTrue (list_all p (cond before (e ∷ f ∷ events) (f ∷ with_event e events)))
    by_place true parts rest = and_from (p e) (p f && list_all p events) here all
    by_place false parts rest = and_from (p f) (list_all p (with_event e events)) parts.0 rest

-- an identity that is absent from a list is not that of its first event, and is absent from the rest
pub absent_parts : (id : List ℕ) (f : PlainEvent) (events : List PlainEvent) → IsFalse (has_id id (f ∷ events)) → IsFalse (bytes_eq f.id id) × IsFalse (has_id id events)
unfolding has_id
absent_parts id f events none = or_parts (bytes_eq f.id id) (has_id id events) none

-- an identity that is absent from a list is absent from a part of it
filter_absent_id : (id : List ℕ) (q : PlainEvent → Bool) (events : List PlainEvent) → IsFalse (has_id id events) → IsFalse (has_id id (filter q events))
unfolding has_id
filter_absent_id id q events none = list_any-filter_none (λ f. bytes_eq f.id id) q events none

-- the three parts of a history
pub history_parts : (e : PlainEvent) (events : List PlainEvent) → IsTrue (is_history (e ∷ events))
    → IsTrue (list_all (comes_before e) events) × IsFalse (has_id e.id events) × IsTrue (is_history events)
unfolding is_history
history_parts e events history =
    let outer = and_parts (list_all (comes_before e) events && not (has_id e.id events)) (is_history events) history in
    let inner = and_parts (list_all (comes_before e) events) (not (has_id e.id events)) outer.0 in
    (inner.0, not-true (has_id e.id events) inner.1, outer.1)

history_from : (e : PlainEvent) (events : List PlainEvent) → IsTrue (list_all (comes_before e) events) → IsFalse (has_id e.id events)
    → IsTrue (is_history events) → IsTrue (is_history (e ∷ events))
unfolding is_history
history_from e events all absent history =
    and_from (list_all (comes_before e) events && not (has_id e.id events)) (is_history events)
    (and_from (list_all (comes_before e) events) (not (has_id e.id events)) all (not_from_false (has_id e.id events) absent)) history

-- a history with an event of a new identity in its place is a history
pub is_history-with_event : (e : PlainEvent) (events : List PlainEvent) → IsTrue (is_history events) → IsFalse (has_id e.id events)
    → IsTrue (is_history (with_event e events))
unfolding with_event
is_history-with_event e [] history absent = history_from e [] refl absent history
is_history-with_event e (f ∷ events) history absent =
    by_place (comes_before e f) refl (history_parts f events history) (absent_parts e.id f events absent)
    (is_history-with_event e events (history_parts f events history).2 (absent_parts e.id f events absent).1)
  where
    by_place : (before : Bool) → comes_before e f ≡ before → IsTrue (list_all (comes_before f) events) × IsFalse (has_id f.id events) × IsTrue (is_history events)
        → IsFalse (bytes_eq f.id e.id) × IsFalse (has_id e.id events) → IsTrue (is_history (with_event e events))
        → IsTrue (is_history (cond before (e ∷ f ∷ events) (f ∷ with_event e events)))
    by_place true before parts other rest =
        history_from e (f ∷ events)
        (and_from (comes_before e f) (list_all (comes_before e) events) before
        (list_all-from_members (comes_before e) events (λ g member. comes_before-trans e f g before (list_all-member (comes_before f) events g parts.0 member))))
        absent history
    by_place false after parts other rest =
        history_from f (with_event e events)
        (list_all-with_event (comes_before f) e events (comes_before-total e f (bytes_eq_comm e.id f.id ∙ other.0) after) parts.0)
        (has_id-with_event f.id e events (bytes_eq_comm e.id f.id ∙ other.0) parts.1) rest

-- a history without the event of an identity is a history
pub is_history-without_event : (id : List ℕ) (events : List PlainEvent) → IsTrue (is_history events) → IsTrue (is_history (without_event id events))
unfolding without_event
is_history-without_event id [] history = history
is_history-without_event id (e ∷ events) history =
    by_test (not (bytes_eq e.id id)) (history_parts e events history) (is_history-without_event id events (history_parts e events history).2)
  where
    kept : List PlainEvent
    kept = filter (λ f. not (bytes_eq f.id id)) events

    by_test : (keeps : Bool) → IsTrue (list_all (comes_before e) events) × IsFalse (has_id e.id events) × IsTrue (is_history events)
        → IsTrue (is_history kept) → IsTrue (is_history (cond keeps (e ∷ kept) kept))
    by_test true parts rest =
        history_from e kept
        (list_all-from_members (comes_before e) kept (λ g member. list_all-member (comes_before e) events g parts.0 (IsMember-from_filter (λ f. not (bytes_eq f.id id)) events g member).0))
        (filter_absent_id e.id (λ f. not (bytes_eq f.id id)) events parts.1) rest
    by_test false parts rest = rest
