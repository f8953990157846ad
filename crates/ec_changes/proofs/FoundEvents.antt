-- What is found in a list of events by identity, once an event is put in or taken out.
use Rattle.std.proofs.Common.{◌≡◌, ◌+◌, ℕ, Bool, true, false, not, cond, suc, List, [], ◌∷◌, length, Option, Some, None, is_some, IsTrue, IsFalse, refl, sym, ap, subst, ◌∙◌, ⊎_elim, arith}
use Rattle.std.specs.Prelude.{bytes_eq}
use Rattle.std.proofs.lemmas.Bool.{cases_Bool, cond-true, cond-false, false≢true, false_from_ne_true}
use Rattle.std.proofs.lemmas.Slice.Eq.{bytes_eq-Decides}
use Rattle.ec_lists.proofs.Finds.{is_some-find}
use Rattle.ec_lists.proofs.Booleans.{cond_comm, or_second}
use Rattle.ec_axioms.specs.Calculus.{PlainEvent}
use Rattle.ec_axioms.specs.Changes.{has_id, comes_before, is_history, has_event, with_event, without_event}
use Rattle.ec_axioms.proofs.Histories.{history_parts, comes_before-trans, is_history-with_event, is_history-without_event, absent_parts}
use Rattle.ec_axioms.proofs.Members.{IsMember, find-Some, list_any-false}
use Rattle.ec_changes.specs.Found.{event_with}
use Rattle.ec_changes.proofs.KeptEvents.{IsPairwise-from_history, comes_before-itself, same_from_members, has_event-member}

-- an identity is present exactly where an event is found
pub has_id-found : (id : List ℕ) (events : List PlainEvent) → has_id id events ≡ is_some (event_with id events)
unfolding has_id
has_id-found id events = sym (is_some-find (λ (e : PlainEvent). bytes_eq e.id id) events)

-- identities that are both the same as a third are the same
same_identity : (a b id : List ℕ) → bytes_eq a id ≡ true → bytes_eq b id ≡ true → bytes_eq a b ≡ true
same_identity a b id left right = (bytes_eq-Decides a b).1 ((bytes_eq-Decides a id).0 left ∙ sym ((bytes_eq-Decides b id).0 right))

-- the event is found in the list with it, and the others as before
pub event_with-put : (id : List ℕ) (e : PlainEvent) (events : List PlainEvent) → IsFalse (has_id e.id events)
    → event_with id (with_event e events) ≡ cond (bytes_eq e.id id) (Some e) (event_with id events)
unfolding with_event
event_with-put id e [] absent = refl
event_with-put id e (f ∷ events) absent =
    let parts = absent_parts e.id f events absent in
    by_place (comes_before e f)
    (ap (λ o. cond (bytes_eq f.id id) (Some f) o) (event_with-put id e events parts.1)
    ∙ cond_comm (bytes_eq f.id id) (bytes_eq e.id id) (Some f) (Some e) (event_with id events)
    (λ other. false_from_ne_true (bytes_eq f.id id) (λ one. false≢true (sym parts.0 ∙ same_identity f.id e.id id one other))))
  where
    by_place : (before : Bool) → cond (bytes_eq f.id id) (Some f) (event_with id (with_event e events)) ≡ cond (bytes_eq e.id id) (Some e) (event_with id (f ∷ events))
        → event_with id (cond before (e ∷ f ∷ events) (f ∷ with_event e events)) ≡ cond (bytes_eq e.id id) (Some e) (event_with id (f ∷ events))
    by_place true rest = refl
    by_place false rest = rest

-- an identity that is taken out is not found, and the others as before
pub event_with-taken : (id gone : List ℕ) (events : List PlainEvent) → event_with id (without_event gone events) ≡ cond (bytes_eq gone id) None (event_with id events)
unfolding without_event
event_with-taken id gone [] = same (bytes_eq gone id)
  where
    same : (b : Bool) → event_with id [] ≡ cond b None (event_with id [])
    same true = refl
    same false = refl
event_with-taken id gone (f ∷ events) =
    by_test (bytes_eq f.id gone) (bytes_eq f.id id) (bytes_eq gone id) refl refl refl (event_with-taken id gone events)
  where
    by_test : (own here there : Bool) → bytes_eq f.id gone ≡ own → bytes_eq f.id id ≡ here → bytes_eq gone id ≡ there
        → event_with id (without_event gone events) ≡ cond there None (event_with id events)
        → event_with id (cond (not own) (f ∷ without_event gone events) (without_event gone events)) ≡ cond there None (cond here (Some f) (event_with id events))
    by_test true true true o h t rest = rest
    by_test true true false o h t rest = absurd (false≢true (sym t ∙ (bytes_eq-Decides gone id).1 (sym ((bytes_eq-Decides f.id gone).0 o) ∙ (bytes_eq-Decides f.id id).0 h)))
    by_test true false true o h t rest = rest
    by_test true false false o h t rest = rest
    by_test false true true o h t rest = absurd (false≢true (sym o ∙ same_identity f.id gone id h t))
    by_test false true false o h t rest = cond-true (bytes_eq f.id id) _ _ h
    by_test false false true o h t rest = cond-false (bytes_eq f.id id) _ _ h ∙ rest
    by_test false false false o h t rest = cond-false (bytes_eq f.id id) _ _ h ∙ rest

-- a member of a history is found by its identity
pub event_with-member : (events : List PlainEvent) (e : PlainEvent) → IsTrue (is_history events) → IsMember events e → event_with e.id events ≡ Some e
unfolding has_id
event_with-member [] e history member = absurd member
event_with-member (f ∷ events) e history member =
    let parts = history_parts f events history in
    ⊎_elim
    (λ same. cond-true (bytes_eq f.id e.id) _ _ ((bytes_eq-Decides f.id e.id).1 (ap (λ (g : PlainEvent). g.id) same)) ∙ ap Some same)
    (λ later.
    let other : bytes_eq f.id e.id ≡ false =
    false_from_ne_true (bytes_eq f.id e.id)
    (λ same. false≢true (sym (list_any-false (λ (g : PlainEvent). bytes_eq g.id f.id) events e parts.1 later) ∙ (bytes_eq-Decides e.id f.id).1 (sym ((bytes_eq-Decides f.id e.id).0 same)))) in
    cond-false (bytes_eq f.id e.id) _ _ other ∙ event_with-member events e parts.2 later)
    member

-- what is found by an identity is a member that has it
pub found-member : (id : List ℕ) (e : PlainEvent) (events : List PlainEvent) → event_with id events ≡ Some e → IsMember events e
found-member id e events is = (find-Some (λ (f : PlainEvent). bytes_eq f.id id) events e is).0

pub found-id : (id : List ℕ) (e : PlainEvent) (events : List PlainEvent) → event_with id events ≡ Some e → e.id ≡ id
found-id id e events is = (bytes_eq-Decides e.id id).0 (find-Some (λ (f : PlainEvent). bytes_eq f.id id) events e is).1

pub found-has_event : (id : List ℕ) (e : PlainEvent) (events : List PlainEvent) → event_with id events ≡ Some e → IsTrue (has_event events e)
found-has_event id e events is = has_event-member events e (found-member id e events is)

-- two histories in which the same is found are the same
pub same_found : (these those : List PlainEvent) → IsTrue (is_history these) → IsTrue (is_history those)
    → ((id : List ℕ) → event_with id these ≡ event_with id those) → these ≡ those
same_found these those history_these history_those same =
    same_from_members (λ e f. IsTrue (comes_before e f)) comes_before-itself (λ e f before after. comes_before-itself e (comes_before-trans e f e before after)) these those (IsPairwise-from_history these history_these) (IsPairwise-from_history those history_those)
    (λ e member. found-member e.id e those (sym (same e.id) ∙ event_with-member these e history_these member))
    (λ e member. found-member e.id e these (same e.id ∙ event_with-member those e history_those member))

-- a list without an absent identity
pub without_event-absent : (id : List ℕ) (events : List PlainEvent) → IsFalse (has_id id events) → without_event id events ≡ events
unfolding has_id without_event
without_event-absent id [] absent = refl
without_event-absent id (f ∷ events) absent =
    let parts = absent_parts id f events absent in
    ap (λ b. cond (not b) (f ∷ without_event id events) (without_event id events)) parts.0 ∙ ap (λ es. f ∷ es) (without_event-absent id events parts.1)

-- and one event less
pub length-without_event : (id : List ℕ) (events : List PlainEvent) → IsTrue (is_history events) → IsTrue (has_id id events) → length (without_event id events) + 1 ≡ length events
unfolding has_id without_event
length-without_event id [] history there = absurd (false≢true there)
length-without_event id (f ∷ events) history there =
    let parts = history_parts f events history in
    ⊎_elim
    (λ own.
    let gone : IsFalse (has_id id events) = subst (λ i. IsFalse (has_id i events)) ((bytes_eq-Decides f.id id).0 own) parts.1 in
    ap (λ b. length (cond (not b) (f ∷ without_event id events) (without_event id events)) + 1) own
    ∙ ap (λ es. length es + 1) (without_event-absent id events gone) ∙ one_more (length events))
    (λ other.
    let rest : IsTrue (has_id id events) = or_second (bytes_eq f.id id) (has_id id events) other there in
    ap (λ b. length (cond (not b) (f ∷ without_event id events) (without_event id events)) + 1) other
    ∙ behind (length (without_event id events)) (length events) (length-without_event id events parts.2 rest))
    (cases_Bool (bytes_eq f.id id))
  where
    one_more : (n : ℕ) → n + 1 ≡ suc n
    one_more n = omega arith

    behind : (m n : ℕ) → m + 1 ≡ n → suc m + 1 ≡ suc n
    behind m n is = omega arith

-- what is put in and taken out again leaves the list as it was
pub without-with_event : (e : PlainEvent) (events : List PlainEvent) → IsTrue (is_history events) → IsFalse (has_id e.id events) → without_event e.id (with_event e events) ≡ events
without-with_event e events history absent =
    same_found (without_event e.id (with_event e events)) events (is_history-without_event e.id (with_event e events) (is_history-with_event e events history absent)) history
    (λ id. event_with-taken id e.id (with_event e events)
    ∙ ap (λ o. cond (bytes_eq e.id id) None o) (event_with-put id e events absent)
    ∙ by_test id (bytes_eq e.id id) refl)
  where
    none_from : (o : Option PlainEvent) → is_some o ≡ false → o ≡ None
    none_from None is = refl
    none_from (Some x) is = absurd (false≢true (sym is))

    by_test : (id : List ℕ) (own : Bool) → bytes_eq e.id id ≡ own → cond own None (cond own (Some e) (event_with id events)) ≡ event_with id events
    by_test id true is = sym (none_from (event_with id events) (sym (has_id-found id events) ∙ ap (λ i. has_id i events) (sym ((bytes_eq-Decides e.id id).0 is)) ∙ absent))
    by_test id false is = refl

-- what is taken out and put in again leaves the list as it was
pub with-without_event : (e : PlainEvent) (events : List PlainEvent) → IsTrue (is_history events) → event_with e.id events ≡ Some e → with_event e (without_event e.id events) ≡ events
with-without_event e events history found =
    same_found (with_event e (without_event e.id events)) events (is_history-with_event e (without_event e.id events) (is_history-without_event e.id events history) absent) history
    (λ id. event_with-put id e (without_event e.id events) absent ∙ by_test id (bytes_eq e.id id) refl)
  where
    absent : IsFalse (has_id e.id (without_event e.id events))
    absent = has_id-found e.id (without_event e.id events) ∙ ap is_some (event_with-taken e.id e.id events ∙ cond-true (bytes_eq e.id e.id) _ _ ((bytes_eq-Decides e.id e.id).1 refl))

    by_test : (id : List ℕ) (own : Bool) → bytes_eq e.id id ≡ own → cond own (Some e) (event_with id (without_event e.id events)) ≡ event_with id events
    by_test id true is = sym found ∙ ap (λ i. event_with i events) ((bytes_eq-Decides e.id id).0 is)
    by_test id false is = event_with-taken id e.id events ∙ cond-false (bytes_eq e.id id) _ _ is
