-- The mentions of a list with one event more, and with one less.
use Rattle.std.proofs.Common.{◌≡◌, true, false, not, List, [], ◌∷◌, ◌++◌, filter, IsTrue, IsFalse, sym, ap, subst, ◌∙◌, ⊎_elim, append_assoc}
use Rattle.std.specs.Prelude.{bytes_eq}
use Rattle.std.specs.List.{list_any, list_all}
use Rattle.std.specs.List.Sorted.{IsPermutation}
use Rattle.std.proofs.lemmas.Bool.{cond_both, and_parts, not-true, not_from_false, not_from_true, cond-true, cond-false, false≢true, false_from_ne_true}
use Rattle.std.proofs.lemmas.List.Sorted.{IsPermutation-refl, IsPermutation-trans, IsPermutation-append_left, IsPermutation-append_right, IsPermutation-append_comm}
use Rattle.std.proofs.lemmas.Slice.Eq.{bytes_eq-Decides}
use Rattle.ec_terms.specs.declared.ground.Ground.{Ground}
use Rattle.ec_terms.specs.declared.theory.Theory.{Theory}
use Rattle.ec_axioms.specs.Calculus.{PlainEvent}
use Rattle.ec_axioms.specs.Changes.{has_id, comes_before, is_history, with_event, without_event}
use Rattle.ec_axioms.specs.Links.{event_mentions, mentions_of}
use Rattle.ec_axioms.proofs.Members.{IsMember, filter_all, member-list_any, list_any-false}
use Rattle.ec_changes.specs.LinkLaws.{MentionsWithEvent, MentionsWithoutEvent}
use Rattle.ec_changes.proofs.KeptEvents.{IsMember-from_has_event}

-- two parts in front in the other order
pub swapped_front : (xs ys zs : List Ground) → IsPermutation (xs ++ (ys ++ zs)) (ys ++ (xs ++ zs))
swapped_front xs ys zs =
    subst (λ us. IsPermutation us (ys ++ (xs ++ zs))) (append_assoc xs ys zs)
    (subst (λ us. IsPermutation ((xs ++ ys) ++ zs) us) (append_assoc ys xs zs)
    (IsPermutation-append_left zs (xs ++ ys) (ys ++ xs) (IsPermutation-append_comm xs ys)))

-- so a part goes behind another, into what stands there
moved_behind : (xs ys zs us : List Ground) → IsPermutation (xs ++ zs) us → IsPermutation (xs ++ (ys ++ zs)) (ys ++ us)
moved_behind xs ys zs us moved =
    IsPermutation-trans (xs ++ (ys ++ zs)) (ys ++ (xs ++ zs)) (ys ++ us) (swapped_front xs ys zs) (IsPermutation-append_right ys (xs ++ zs) us moved)

-- the law
pub MentionsWithEvent-law : MentionsWithEvent
unfolding with_event mentions_of
MentionsWithEvent-law theory e [] = IsPermutation-refl (event_mentions theory e ++ [])
MentionsWithEvent-law theory e (f ∷ events) =
    cond_both (comes_before e f) (e ∷ f ∷ events) (f ∷ with_event e events)
    (λ list. IsPermutation (event_mentions theory e ++ (event_mentions theory f ++ mentions_of theory events)) (mentions_of theory list))
    (λ _. IsPermutation-refl (event_mentions theory e ++ (event_mentions theory f ++ mentions_of theory events)))
    (λ _. moved_behind (event_mentions theory e) (event_mentions theory f) (mentions_of theory events) (mentions_of theory (with_event e events)) (MentionsWithEvent-law theory e events))

-- an event of a history, taken out of it
without-member : (theory : Theory) (e : PlainEvent) (events : List PlainEvent) → IsTrue (is_history events) → IsMember events e
    → IsPermutation (event_mentions theory e ++ mentions_of theory (without_event e.id events)) (mentions_of theory events)
unfolding is_history has_id without_event mentions_of
without-member theory e [] history member = absurd member
without-member theory e (f ∷ events) history member =
    let parts = and_parts _ (is_history events) history in
    let alone : IsFalse (list_any (λ g. bytes_eq g.id f.id) events) = not-true _ (and_parts (list_all (comes_before f) events) _ parts.0).1 in
    ⊎_elim
    (λ same.
    let here : bytes_eq f.id e.id ≡ true = (bytes_eq-Decides f.id e.id).1 (ap (λ (g : PlainEvent). g.id) same) in
    let rest : filter (λ g. not (bytes_eq g.id e.id)) events ≡ events =
    filter_all (λ (g : PlainEvent). not (bytes_eq g.id e.id)) events
    (λ g later. not_from_false (bytes_eq g.id e.id)
    (subst (λ (h : PlainEvent). IsFalse (bytes_eq g.id h.id)) same (list_any-false (λ (h : PlainEvent). bytes_eq h.id f.id) events g alone later))) in
    let left : without_event e.id (f ∷ events) ≡ events = cond-false (not (bytes_eq f.id e.id)) _ _ (not_from_true _ here) ∙ rest in
    subst (λ own. IsPermutation (event_mentions theory e ++ mentions_of theory (without_event e.id (f ∷ events))) (own ++ mentions_of theory events)) (ap (event_mentions theory) (sym same))
    (subst (λ list. IsPermutation (event_mentions theory e ++ mentions_of theory list) (event_mentions theory e ++ mentions_of theory events)) (sym left)
    (IsPermutation-refl (event_mentions theory e ++ mentions_of theory events))))
    (λ later.
    let apart : bytes_eq f.id e.id ≡ false =
    false_from_ne_true (bytes_eq f.id e.id)
    (λ same. false≢true (sym alone ∙ member-list_any (λ (g : PlainEvent). bytes_eq g.id f.id) events e later ((bytes_eq-Decides e.id f.id).1 (sym ((bytes_eq-Decides f.id e.id).0 same))))) in
    let kept : without_event e.id (f ∷ events) ≡ f ∷ without_event e.id events = cond-true (not (bytes_eq f.id e.id)) _ _ (not_from_false _ apart) in
    subst (λ list. IsPermutation (event_mentions theory e ++ mentions_of theory list) (event_mentions theory f ++ mentions_of theory events)) (sym kept)
    (moved_behind (event_mentions theory e) (event_mentions theory f) (mentions_of theory (without_event e.id events)) (mentions_of theory events)
    (without-member theory e events parts.1 later)))
    member

-- the law
pub MentionsWithoutEvent-law : MentionsWithoutEvent
MentionsWithoutEvent-law theory e events history there = without-member theory e events history (IsMember-from_has_event events e there)
