-- An accepted update is taken back by an update that is accepted.
use Rattle.std.proofs.Common.{◌≡◌, ◌<◌, Bool, true, false, cond, leb, ltb, List, length, Option, Some, None, is_some, Ok, Err, IsTrue, IsFalse, refl, sym, ap, subst, ◌∙◌, arith}
use Rattle.std.specs.Prelude.{bytes_eq, option_map}
use Rattle.std.proofs.lemmas.Bool.{cond-true, cond-false, le-ltb, lt-leb, false≢true}
use Rattle.std.proofs.lemmas.Slice.Eq.{bytes_eq-Decides}
use Rattle.ec_terms.specs.declared.theory.Theory.{Theory}
use Rattle.ec_axioms.specs.declared.event.Cut.TheVariants.{Duplicate, Unknown, FullEvents, FullMentions, FullLinks}
use Rattle.ec_axioms.specs.Calculus.{PlainEvent}
use Rattle.ec_axioms.specs.Changes.{PlainUpdate, asserting, retracting, is_history, has_id, with_event, without_event}
use Rattle.ec_axioms.specs.Links.{mentions_of, link_count, most_events, most_mentions, most_links}
use Rattle.ec_changes.specs.Found.{event_with}
use Rattle.ec_changes.proofs.FoundEvents.{event_with-put, event_with-taken, found-id, has_id-found, length-without_event, with-without_event, without-with_event}
use Rattle.ec_replies.specs.Updates.{updated, asserted, retracted, with_few_mentions}
use Rattle.ec_replies.specs.RunLaws.{IsListWithinLimits}
use Rattle.ec_replies.specs.PastLaws.{AcceptedUpdatesCanBeTakenBack, way_back}

-- an event that came goes again
retracted-with_event : (e : PlainEvent) (events : List PlainEvent) → IsTrue (is_history events) → IsFalse (has_id e.id events)
    → retracted (with_event e events) e.id ≡ Ok events
unfolding retracted
retracted-with_event e events history absent = cond-true (has_id e.id (with_event e events)) _ _ there ∙ ap Ok (without-with_event e events history absent)
  where
    there : IsTrue (has_id e.id (with_event e events))
    there =
        has_id-found e.id (with_event e events)
        ∙ ap is_some (event_with-put e.id e events absent ∙ cond-true (bytes_eq e.id e.id) _ _ ((bytes_eq-Decides e.id e.id).1 refl))

-- and one that went comes again, since there is room for it
asserted-without_event : (theory : Theory) (e : PlainEvent) (events : List PlainEvent) → IsListWithinLimits theory events → event_with e.id events ≡ Some e
    → asserted theory (without_event e.id events) e ≡ Ok events
unfolding asserted with_few_mentions
asserted-without_event theory e events within found =
    cond-false (has_id e.id (without_event e.id events)) _ _ absent
    ∙ cond-false (leb most_events (length (without_event e.id events))) _ _ (lt-leb most_events (length (without_event e.id events)) fewer)
    ∙ ap (λ es. cond (ltb most_mentions (length (mentions_of theory es))) (Err FullMentions) (cond (ltb most_links (link_count theory es)) (Err FullLinks) (Ok es)))
    (with-without_event e events within.history found)
    ∙ cond-false (ltb most_mentions (length (mentions_of theory events))) _ _ (le-ltb most_mentions (length (mentions_of theory events)) within.few_mentions)
    ∙ cond-false (ltb most_links (link_count theory events)) _ _ (le-ltb most_links (link_count theory events) within.few_links)
  where
    absent : IsFalse (has_id e.id (without_event e.id events))
    absent = has_id-found e.id (without_event e.id events) ∙ ap is_some (event_with-taken e.id e.id events ∙ cond-true (bytes_eq e.id e.id) _ _ ((bytes_eq-Decides e.id e.id).1 refl))

    fewer : length (without_event e.id events) < most_events
    fewer =
        let one = length-without_event e.id events within.history (has_id-found e.id events ∙ ap is_some found) in
        let few = within.few_events in omega arith

-- the law
pub AcceptedUpdatesCanBeTakenBack-law : AcceptedUpdatesCanBeTakenBack
unfolding asserted retracted with_few_mentions
AcceptedUpdatesCanBeTakenBack-law theory before after (asserting e) within is =
    by_tests (has_id e.id before) (leb most_events (length before)) (ltb most_mentions (length (mentions_of theory (with_event e before))))
    (ltb most_links (link_count theory (with_event e before))) refl is
  where
    by_tests : (present full many linked : Bool) → has_id e.id before ≡ present
        → cond present (Err (Duplicate e.id)) (cond full (Err FullEvents) (cond many (Err FullMentions) (cond linked (Err FullLinks) (Ok (with_event e before))))) ≡ Ok after
        → (back : PlainUpdate) × (way_back before (asserting e) ≡ Some back) × (updated theory after back ≡ Ok before)
    by_tests true full many linked absent is = cc
    by_tests false true many linked absent is = cc
    by_tests false false true linked absent is = cc
    by_tests false false false true absent is = cc
    by_tests false false false false absent is =
        let same : with_event e before ≡ after = cc in
        (retracting e.id, refl, subst (λ es. retracted es e.id ≡ Ok before) same (retracted-with_event e before within.history absent))
AcceptedUpdatesCanBeTakenBack-law theory before after (retracting id) within is = by_test (has_id id before) refl is
  where
    by_found : (o : Option PlainEvent) → event_with id before ≡ o → is_some o ≡ true → without_event id before ≡ after
        → (back : PlainUpdate) × (option_map asserting o ≡ Some back) × (updated theory after back ≡ Ok before)
    by_found None found there same = absurd (false≢true there)
    by_found (Some e) found there same =
        let own : e.id ≡ id = found-id id e before found in
        let goes : without_event e.id before ≡ after = ap (λ i. without_event i before) own ∙ same in
        (asserting e, refl, subst (λ es. asserted theory es e ≡ Ok before) goes (asserted-without_event theory e before within (ap (λ i. event_with i before) own ∙ found)))

    by_test : (present : Bool) → has_id id before ≡ present → cond present (Ok (without_event id before)) (Err (Unknown id)) ≡ Ok after
        → (back : PlainUpdate) × (way_back before (retracting id) ≡ Some back) × (updated theory after back ≡ Ok before)
    by_test false there is = cc
    by_test true there is =
        let same : without_event id before ≡ after = cc in
        by_found (event_with id before) refl (sym (has_id-found id before) ∙ there) same
