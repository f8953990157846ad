-- Events that are put in one after another, each within the limits if all of them are.
use Rattle.std.proofs.Common.{◌≡◌, ℕ, Bool, true, false, ◌||◌, cond, List, [], ◌∷◌, ◌++◌, length, map, IsFalse, refl, sym, ap, subst, ◌∙◌, inl, inr, arith, length-append}
use Rattle.std.specs.Prelude.{bytes_eq, nat_le, nat_lt, Ok}
use Rattle.std.specs.List.{fold}
use Rattle.std.proofs.Math.Bool.{or-false}
use Rattle.std.proofs.lemmas.Bool.{cond-false}
use Rattle.std.proofs.lemmas.List.{map-append}
use Rattle.std.proofs.lemmas.List.Sorted.{length_permutation}
use Rattle.std.proofs.lemmas.List.Sums.{fold-append}
use Rattle.ec_lists.proofs.Booleans.{or_left_comm, or_turned}
use Rattle.ec_terms.specs.declared.theory.Theory.{Theory}
use Rattle.ec_axioms.specs.Calculus.{PlainEvent}
use Rattle.ec_axioms.specs.Changes.{comes_before, event_eq, has_event, has_id, with_event}
use Rattle.ec_axioms.specs.Links.{event_mentions, link_count, mentions_of, most_events, most_links, most_mentions}
use Rattle.ec_axioms.proofs.Histories.{has_id-with_event}
use Rattle.ec_axioms.proofs.Members.{IsMember, IsMember-map, IsPairwise}
use Rattle.ec_changes.proofs.DistinctLists.{IsPairwise-from_distinct}
use Rattle.ec_changes.proofs.EventMentions.{MentionsWithEvent-law}
use Rattle.ec_changes.proofs.LinkSteps.{LinksAreOfMentions-law, LinksInAnyOrder-law}
use Rattle.ec_replies.specs.Updates.{asserted, with_few_mentions}
use Rattle.ec_replies.proofs.Limits.{length-with_event, links_of-append}
use Rattle.ec_batch.specs.Build.{HaveOwnIds, history_from}
use Rattle.ec_batch.specs.Limits.{IsWithinLimits}

-- ---- identities

-- each before another is apart from it
pairwise-between : {X : Type 0} (R : X → X → Type 0) (xs : List X) (x : X) (ys : List X) → IsPairwise R (xs ++ x ∷ ys) → (z : X) → IsMember xs z → R z x
pairwise-between R [] x ys pairs z member = absurd member
pairwise-between R (y ∷ xs) x ys pairs z (inl same) = subst (λ w. R w x) same (pairs.0 x (between xs))
  where
    between : (zs : List _) → IsMember (zs ++ x ∷ ys) x
    between [] = inl refl
    between (z ∷ zs) = inr (between zs)
pairwise-between R (y ∷ xs) x ys pairs z (inr later) = pairwise-between R xs x ys pairs.1 z later

-- what no event has, their history does not have
has_id-built : (id : List ℕ) (events built : List PlainEvent) → ((e : PlainEvent) → IsMember events e → IsFalse (bytes_eq e.id id)) → IsFalse (has_id id built)
    → IsFalse (has_id id (fold (λ es e. with_event e es) built events))
has_id-built id [] built apart absent = absent
has_id-built id (e ∷ events) built apart absent =
    has_id-built id events (with_event e built) (λ f later. apart f (inr later)) (has_id-with_event id e built (apart e (inl refl)) absent)

-- an event's identity is absent from the history of those before it
pub absent-built : (front : List PlainEvent) (e : PlainEvent) (rest : List PlainEvent) → HaveOwnIds (front ++ e ∷ rest) → IsFalse (has_id e.id (history_from front))
unfolding has_id
absent-built front e rest own =
    let ids = subst (λ ks. IsPairwise (λ j k. IsFalse (bytes_eq j k)) ks) (map-append (λ (f : PlainEvent). f.id) front (e ∷ rest)) (IsPairwise-from_distinct bytes_eq (map (λ (f : PlainEvent). f.id) (front ++ e ∷ rest)) own) in
    has_id-built e.id front [] (λ f member. pairwise-between (λ j k. IsFalse (bytes_eq j k)) (map (λ (f : PlainEvent). f.id) front) e.id (map (λ (f : PlainEvent). f.id) rest) ids f.id (IsMember-map (λ (f : PlainEvent). f.id) front f member)) refl

-- ---- events

-- an event stands in the list with another exactly if it is the other, or stands in the list
has_event-with_event : (f e : PlainEvent) (events : List PlainEvent) → has_event (with_event e events) f ≡ (event_eq f e || has_event events f)
unfolding has_event with_event
has_event-with_event f e [] = refl
has_event-with_event f e (g ∷ events) =
    by_place (comes_before e g) (ap (λ b. event_eq f g || b) (has_event-with_event f e events) ∙ or_left_comm (event_eq f g) (event_eq f e) (has_event events f))
  where
    by_place : (before : Bool) → has_event (g ∷ with_event e events) f ≡ (event_eq f e || has_event (g ∷ events) f)
        → has_event (cond before (e ∷ g ∷ events) (g ∷ with_event e events)) f ≡ (event_eq f e || has_event (g ∷ events) f)
    by_place true rest = refl
    by_place false rest = rest

-- and so with several others
has_event-built : (f : PlainEvent) (events built : List PlainEvent) → has_event (fold (λ es e. with_event e es) built events) f ≡ (has_event built f || has_event events f)
unfolding has_event
has_event-built f [] built = sym (or-false (has_event built f))
has_event-built f (e ∷ events) built =
    has_event-built f events (with_event e built) ∙ ap (λ b. b || has_event events f) (has_event-with_event f e built) ∙ sym (or_turned (has_event built f) (event_eq f e) (has_event events f))

-- so an event stands in the history of some events exactly if it is one of them
pub has_event-history_from : (events : List PlainEvent) (f : PlainEvent) → has_event (history_from events) f ≡ has_event events f
unfolding has_event
has_event-history_from events f = has_event-built f events []

-- ---- limits

-- a list is within the limits if it is with one event more
within-one_less : (theory : Theory) (e : PlainEvent) (events : List PlainEvent) → IsWithinLimits theory (with_event e events) → IsWithinLimits theory events
within-one_less theory e events within =
    let moved = MentionsWithEvent-law theory e events in
    let longer = length-with_event e events in
    let mentions = length_permutation _ _ moved ∙ length-append (event_mentions theory e) (mentions_of theory events) in
    let links = links_of-append theory (event_mentions theory e) (mentions_of theory events) in
    let links_same = (LinksInAnyOrder-law theory _ _ moved).1 in
    let links_old = LinksAreOfMentions-law theory events in
    let links_new = LinksAreOfMentions-law theory (with_event e events) in
    let few = within.few_events in let few_mentions = within.few_mentions in let few_links = within.few_links in
    record { few_events = omega arith; few_mentions = omega arith; few_links = omega arith }

-- and if it is with more
within-fewer : (theory : Theory) (events built : List PlainEvent) → IsWithinLimits theory (fold (λ es e. with_event e es) built events) → IsWithinLimits theory built
within-fewer theory [] built within = within
within-fewer theory (e ∷ events) built within = within-one_less theory e built (within-fewer theory events (with_event e built) within)

-- the history of a front, with the next event, is within the limits of all
pub within-front : (theory : Theory) (front : List PlainEvent) (e : PlainEvent) (rest : List PlainEvent) → IsWithinLimits theory (history_from (front ++ e ∷ rest))
    → IsWithinLimits theory (with_event e (history_from front))
within-front theory front e rest within =
    within-fewer theory rest (with_event e (history_from front)) (subst (λ es. IsWithinLimits theory es) (fold-append (λ es f. with_event f es) [] front (e ∷ rest)) within)

-- so the next event is let in
pub asserted-built : (theory : Theory) (e : PlainEvent) (events : List PlainEvent) → IsFalse (has_id e.id events) → IsWithinLimits theory (with_event e events)
    → asserted theory events e ≡ Ok (with_event e events)
unfolding asserted with_few_mentions
asserted-built theory e events absent within =
    let longer = length-with_event e events in
    let few_events = within.few_events in
    let few_mentions = within.few_mentions in
    let few_links = within.few_links in
    let events_few : nat_le most_events (length events) ≡ false = grind arith in
    let mentions_few : nat_lt most_mentions (length (mentions_of theory (with_event e events))) ≡ false = grind arith in
    let links_few : nat_lt most_links (link_count theory (with_event e events)) ≡ false = grind arith in
    cond-false _ _ _ absent ∙ cond-false _ _ _ events_few ∙ cond-false _ _ _ mentions_few ∙ cond-false _ _ _ links_few

-- and stands in the history of one event more
pub history_from-next : (front : List PlainEvent) (e : PlainEvent) → history_from (front ++ e ∷ []) ≡ with_event e (history_from front)
history_from-next front e = fold-append (λ es f. with_event f es) [] front (e ∷ [])

-- all of this, of the next event of a list
pub asserted-next : (theory : Theory) (front : List PlainEvent) (e : PlainEvent) (rest all : List PlainEvent) → all ≡ front ++ e ∷ rest → HaveOwnIds all → IsWithinLimits theory (history_from all)
    → asserted theory (history_from front) e ≡ Ok (with_event e (history_from front))
asserted-next theory front e rest all is own within =
    asserted-built theory e (history_from front) (absent-built front e rest (subst (λ es. HaveOwnIds es) is own)) (within-front theory front e rest (subst (λ es. IsWithinLimits theory (history_from es)) is within))
