-- Events that stand in both of two histories, and in one alone.
use Rattle.std.proofs.Common.{◌≡◌, ℕ, ℤ, false, ◌&&◌, ◌||◌, List, [], ◌∷◌, filter, IsTrue, refl, sym, ap, subst, ◌∙◌, inl, inr, ⊎_elim, arith}
use Rattle.std.specs.Prelude.{int_lt, bytes_eq}
use Rattle.std.specs.List.{list_all}
use Rattle.std.specs.Ordering.{int_eq, is_lt}
use Rattle.std.proofs.lemmas.Bool.{and_parts, false≢true}
use Rattle.std.proofs.lemmas.Slice.Eq.{bytes_eq-Decides}
use Rattle.ec_lists.proofs.Integers.{int_eq-is, int_eq-same, int_lt-same}
use Rattle.ec_terms.specs.declared.ground.Ground.{Ground}
use Rattle.std.proofs.lemmas.Cmp.{nat_list_cmp_total, tied_itself}
use Rattle.ec_terms.specs.Term.{term_eq, name_cmp}
use Rattle.ec_terms.proofs.OrderLemmas.{term_eq-Decides}
use Rattle.ec_axioms.specs.Calculus.{PlainEvent}
use Rattle.ec_axioms.specs.Changes.{comes_before, is_history, event_eq, has_event, kept_events}
use Rattle.ec_axioms.proofs.Members.{IsMember, IsMember-filter, IsMember-from_filter, IsPairwise, IsPairwise-filter, list_all-member, list_any-member, member-list_any}
use Rattle.ec_axioms.proofs.Histories.{comes_before-trans}
use Rattle.ec_changes.specs.TurnLaws.{KeptIsOfBoth, SameEventsSameHistory}

-- ---- lists in one order

-- two lists that ascend by one order and have the same members are the same
pub same_from_members : {X : Type 0} (before : X → X → Type 0) → ((x : X) → before x x → ⊥) → ((x y : X) → before x y → before y x → ⊥)
    → (xs ys : List X) → IsPairwise before xs → IsPairwise before ys → ((x : X) → IsMember xs x → IsMember ys x) → ((x : X) → IsMember ys x → IsMember xs x)
    → xs ≡ ys
same_from_members before never one_way [] [] left right into back = refl
same_from_members before never one_way [] (y ∷ ys) left right into back = absurd (back y (inl refl))
same_from_members before never one_way (x ∷ xs) [] left right into back = absurd (into x (inl refl))
same_from_members {X} before never one_way (x ∷ xs) (y ∷ ys) left right into back =
    let heads : x ≡ y =
    ⊎_elim (λ same. sym same)
    (λ x_later. ⊎_elim (λ same. same) (λ y_later. absurd (one_way x y (left.0 y y_later) (right.0 x x_later))) (back y (inl refl)))
    (into x (inl refl)) in
    let tail_into : (z : X) → IsMember xs z → IsMember ys z =
    λ z member. ⊎_elim (λ same. absurd (never z (subst (λ w. before w z) (heads ∙ same) (left.0 z member)))) (λ later. later) (into z (inr member)) in
    let tail_back : (z : X) → IsMember ys z → IsMember xs z =
    λ z member. ⊎_elim (λ same. absurd (never z (subst (λ w. before w z) (sym heads ∙ same) (right.0 z member)))) (λ later. later) (back z (inr member)) in
    let tails = same_from_members before never one_way xs ys left.1 right.1 tail_into tail_back in cc

-- ---- events

-- two events with the same identity, time and term are one
event_same : (e f : PlainEvent) → e.id ≡ f.id → e.rank ≡ f.rank → e.term ≡ f.term → e ≡ f
event_same e f ids ranks terms =
    let made : List ℕ → ℤ → Ground → PlainEvent = λ id rank term. record { id = id; rank = rank; term = term } in
    ap (λ id. made id e.rank e.term) ids ∙ ap (λ rank. made f.id rank e.term) ranks ∙ ap (made f.id f.rank) terms

-- the test of events passes the same event alone
pub event_eq-is : (e f : PlainEvent) → IsTrue (event_eq e f) → e ≡ f
unfolding event_eq
event_eq-is e f same =
    let both = and_parts _ (term_eq e.term f.term) same in
    let first = and_parts (bytes_eq e.id f.id) (int_eq e.rank f.rank) both.0 in
    event_same e f ((bytes_eq-Decides e.id f.id).0 first.0) (int_eq-is e.rank f.rank first.1) ((term_eq-Decides e.term f.term).0 both.1)

-- and it passes that event
pub event_eq-same : (e : PlainEvent) → IsTrue (event_eq e e)
unfolding event_eq
event_eq-same e =
    let ids = (bytes_eq-Decides e.id e.id).1 refl in let ranks = int_eq-same e.rank in let terms = (term_eq-Decides e.term e.term).1 refl in grind arith

-- an event that stands in a list is a member
pub IsMember-from_has_event : (events : List PlainEvent) (e : PlainEvent) → IsTrue (has_event events e) → IsMember events e
unfolding has_event
IsMember-from_has_event events e there =
    let found = list_any-member (event_eq e) events there in subst (IsMember events) (sym (event_eq-is e found.0 found.2)) found.1

-- and a member stands in it
pub has_event-member : (events : List PlainEvent) (e : PlainEvent) → IsMember events e → IsTrue (has_event events e)
unfolding has_event
has_event-member events e member = member-list_any (event_eq e) events e member (event_eq-same e)

-- an event is not before itself
pub comes_before-itself : (e : PlainEvent) → IsTrue (comes_before e e) → ⊥
unfolding comes_before
comes_before-itself e before =
    let never = int_lt-same e.rank in
    let least : is_lt (name_cmp e.id e.id) ≡ false = ap is_lt (tied_itself nat_list_cmp_total e.id) in
    let fails : (int_lt e.rank e.rank || (int_eq e.rank e.rank && is_lt (name_cmp e.id e.id))) ≡ false = grind arith in
    false≢true (sym fails ∙ before)

-- of two events not both are before the other
comes_before-one_way : (e f : PlainEvent) → IsTrue (comes_before e f) → IsTrue (comes_before f e) → ⊥
comes_before-one_way e f before after = comes_before-itself e (comes_before-trans e f e before after)

-- a history as members in order
pub IsPairwise-from_history : (events : List PlainEvent) → IsTrue (is_history events) → IsPairwise (λ e f. IsTrue (comes_before e f)) events
unfolding is_history
IsPairwise-from_history [] history = tt
IsPairwise-from_history (e ∷ events) history =
    let both = and_parts _ (is_history events) history in
    let first = (and_parts (list_all (comes_before e) events) _ both.0).0 in
    (λ f later. list_all-member (comes_before e) events f first later, IsPairwise-from_history events both.1)

-- two histories with the same events are the same
history-same : (these those : List PlainEvent) → IsPairwise (λ e f. IsTrue (comes_before e f)) these → IsPairwise (λ e f. IsTrue (comes_before e f)) those
    → ((e : PlainEvent) → IsMember these e → IsMember those e) → ((e : PlainEvent) → IsMember those e → IsMember these e) → these ≡ those
history-same = same_from_members (λ e f. IsTrue (comes_before e f)) comes_before-itself comes_before-one_way

-- the law
pub SameEventsSameHistory-law : SameEventsSameHistory
SameEventsSameHistory-law these those history_these history_those same =
    history-same these those (IsPairwise-from_history these history_these) (IsPairwise-from_history those history_those)
    (λ e member. IsMember-from_has_event those e (sym (same e) ∙ has_event-member these e member))
    (λ e member. IsMember-from_has_event these e (same e ∙ has_event-member those e member))

-- what stands in both of two histories is the same list, whichever it is taken from
pub kept_events-both : (old new : List PlainEvent) → IsTrue (is_history old) → IsTrue (is_history new) → kept_events old new ≡ kept_events new old
unfolding kept_events
kept_events-both old new history_old history_new =
    history-same (filter (has_event new) old) (filter (has_event old) new)
    (IsPairwise-filter (λ e f. IsTrue (comes_before e f)) (has_event new) old (IsPairwise-from_history old history_old))
    (IsPairwise-filter (λ e f. IsTrue (comes_before e f)) (has_event old) new (IsPairwise-from_history new history_new))
    (swapped old new) (swapped new old)
  where
    swapped : (these those : List PlainEvent) (e : PlainEvent) → IsMember (filter (has_event those) these) e → IsMember (filter (has_event these) those) e
    swapped these those e member =
        let kept = IsMember-from_filter (has_event those) these e member in
        IsMember-filter (has_event these) those e (IsMember-from_has_event those e kept.1) (has_event-member these e kept.0)

-- the law
pub KeptIsOfBoth-law : KeptIsOfBoth
KeptIsOfBoth-law = kept_events-both
