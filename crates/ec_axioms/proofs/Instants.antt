-- Lemmas on ascending instants: the least that passes a test, and what stands before an instant.
use Rattle.std.proofs.Common.{◌≡◌, ℤ, ◌⊎◌, Bool, true, ◌&&◌, List, [], ◌∷◌, filter, find, Some, IsTrue, IsSomeAnd, refl, ap, sym, subst, ◌∙◌, inl, inr, ⊎_elim, arith}
use Rattle.std.specs.Prelude.{int_lt, int_le}
use Rattle.std.specs.List.{list_all}
use Rattle.std.specs.Ordering.{int_eq}
use Rattle.std.proofs.lemmas.Int.{ints}
use Rattle.std.proofs.lemmas.Bool.{cond_both, and_parts, and_from, false≢true}
use Rattle.ec_axioms.specs.Calculus.{PlainEvent, with_instant, instants_of}
use Rattle.ec_axioms.specs.Changes.{comes_before, is_history}
use Rattle.ec_lists.proofs.Integers.{int_lt-trans, int_le-same, int_le-from_lt, int_lt-from_le}
use Rattle.ec_axioms.proofs.Members.{IsMember, IsMember-from_filter, IsPairwise, list_all-member, list_all-from_members}
use Rattle.ec_axioms.proofs.Histories.{history_parts}

-- each instant is before all that stand behind it
abbrev pub is_ascending : List ℤ → Bool
is_ascending [] = true
is_ascending (t ∷ ts) = list_all (int_lt t) ts && is_ascending ts

-- the first is before each that stands behind it
pub is_ascending-head : (t : ℤ) (ts : List ℤ) → IsTrue (is_ascending (t ∷ ts)) → (u : ℤ) → IsMember ts u → IsTrue (int_lt t u)
is_ascending-head t ts ascending u later = list_all-member (int_lt t) ts u (and_parts (list_all (int_lt t) ts) (is_ascending ts) ascending).0 later

-- and those behind it ascend
pub is_ascending-tail : (t : ℤ) (ts : List ℤ) → IsTrue (is_ascending (t ∷ ts)) → IsTrue (is_ascending ts)
is_ascending-tail t ts ascending = (and_parts (list_all (int_lt t) ts) (is_ascending ts) ascending).1

-- ascending instants as members in order
pub IsPairwise-from_ascending : (ts : List ℤ) → IsTrue (is_ascending ts) → IsPairwise (λ s t. IsTrue (int_lt s t)) ts
IsPairwise-from_ascending [] ascending = tt
IsPairwise-from_ascending (t ∷ ts) ascending = (is_ascending-head t ts ascending, IsPairwise-from_ascending ts (is_ascending-tail t ts ascending))

-- what is kept of ascending instants ascends
pub is_ascending-filter : (p : ℤ → Bool) (ts : List ℤ) → IsTrue (is_ascending ts) → IsTrue (is_ascending (filter p ts))
is_ascending-filter p [] ascending = refl
is_ascending-filter p (t ∷ ts) ascending =
    let rest = is_ascending-filter p ts (is_ascending-tail t ts ascending) in
    cond_both (p t) (t ∷ filter p ts) (filter p ts)
    (λ kept. IsTrue (is_ascending kept))
    (λ _. and_from (list_all (int_lt t) (filter p ts)) (is_ascending (filter p ts))
    (list_all-from_members (int_lt t) (filter p ts) (λ u member. is_ascending-head t ts ascending u (IsMember-from_filter p ts u member).0)) rest)
    (λ _. rest)

-- the first of ascending instants that passes comes not after any that passes
pub find-least : (p : ℤ → Bool) (ts : List ℤ) (t : ℤ) → IsTrue (is_ascending ts) → IsMember ts t → IsTrue (p t)
    → IsSomeAnd (find p ts) (λ x. IsTrue (int_le x t))
find-least p [] t ascending member passes = absurd member
find-least p (s ∷ ts) t ascending (inl same) passes =
    cond_both (p s) (Some s) (find p ts)
    (λ o. IsSomeAnd o (λ x. IsTrue (int_le x t)))
    (λ _. subst (λ u. IsTrue (int_le s u)) same (int_le-same s))
    (λ fails. absurd (false≢true (sym fails ∙ (ap p same ∙ passes))))
find-least p (s ∷ ts) t ascending (inr later) passes =
    cond_both (p s) (Some s) (find p ts)
    (λ o. IsSomeAnd o (λ x. IsTrue (int_le x t)))
    (λ _. int_le-from_lt s t (is_ascending-head s ts ascending t later))
    (λ _. find-least p ts t (is_ascending-tail s ts ascending) later passes)

-- ---- the instants of a history

-- a member of the instants is the new one or stood there before
pub IsMember-with_instant : (t : ℤ) (ts : List ℤ) (u : ℤ) → IsMember (with_instant t ts) u → (t ≡ u) ⊎ IsMember ts u
IsMember-with_instant t [] u = λ member. member
IsMember-with_instant t (s ∷ ts) u =
    cond_both (int_eq t s) (s ∷ ts) (t ∷ s ∷ ts) (λ list. IsMember list u → (t ≡ u) ⊎ IsMember (s ∷ ts) u) (λ _ member. inr member) (λ _ member. member)

-- an instant that is not after any of ascending ones stands in front of them
pub is_ascending-with_instant : (t : ℤ) (ts : List ℤ) → IsTrue (is_ascending ts) → ((u : ℤ) → IsMember ts u → IsTrue (int_le t u))
    → IsTrue (is_ascending (with_instant t ts))
is_ascending-with_instant t [] ascending least = refl
is_ascending-with_instant t (s ∷ ts) ascending least =
    cond_both (int_eq t s) (s ∷ ts) (t ∷ s ∷ ts)
    (λ list. IsTrue (is_ascending list))
    (λ _. ascending)
    (λ different.
    let first : IsTrue (int_lt t s) = int_lt-from_le t s (least s (inl refl)) different in
    let behind = list_all-from_members (int_lt t) ts (λ u later. int_lt-trans t s u first (is_ascending-head s ts ascending u later)) in
    and_from (int_lt t s && list_all (int_lt t) ts) (is_ascending (s ∷ ts)) (and_from (int_lt t s) (list_all (int_lt t) ts) first behind) ascending)

-- each instant is the time of an event
pub IsMember-instants_of : (events : List PlainEvent) (u : ℤ) → IsMember (instants_of events) u → (e : PlainEvent) × IsMember events e × (e.rank ≡ u)
unfolding instants_of
IsMember-instants_of [] u member = absurd member
IsMember-instants_of (e ∷ events) u member =
    ⊎_elim (λ same. (e, inl refl, same))
    (λ later. let found = IsMember-instants_of events u later in (found.0, inr found.1, found.2))
    (IsMember-with_instant e.rank (instants_of events) u member)

-- an event that comes before another is not later
pub int_le-comes_before : (e f : PlainEvent) → IsTrue (comes_before e f) → IsTrue (int_le e.rank f.rank)
unfolding comes_before
int_le-comes_before e f before = grind (arith, ints)

-- the instants of a history ascend
pub is_ascending-instants_of : (events : List PlainEvent) → IsTrue (is_history events) → IsTrue (is_ascending (instants_of events))
unfolding instants_of
is_ascending-instants_of [] history = refl
is_ascending-instants_of (e ∷ events) history =
    let parts = history_parts e events history in
    is_ascending-with_instant e.rank (instants_of events) (is_ascending-instants_of events parts.2)
    (λ u member.
    let found = IsMember-instants_of events u member in
    subst (λ t. IsTrue (int_le e.rank t)) found.2 (int_le-comes_before e found.0 (list_all-member (comes_before e) events found.0 parts.0 found.1)))
