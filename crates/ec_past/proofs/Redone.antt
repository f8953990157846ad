-- Records that were made can be taken back, and made again.
use Rattle.std.proofs.Common.{◌≡◌, ◌<◌, ◌+◌, ℕ, Bool, true, false, cond, List, [], ◌∷◌, ◌++◌, length, map, Some, Result, Ok, Err, is_some, IsTrue, IsFalse, refl, sym, ap, subst, ◌∙◌, leb, ltb, arith}
use Rattle.std.specs.Prelude.{bytes_eq}
use Rattle.std.proofs.lemmas.Bool.{cond-true, cond-false, false≢true, le-ltb, lt-leb}
use Rattle.std.proofs.lemmas.Slice.Eq.{bytes_eq-Decides}
use Rattle.ec_terms.specs.declared.theory.Theory.{Theory}
use Rattle.ec_axioms.specs.declared.event.Cut.{Cut}
use Rattle.ec_axioms.specs.declared.event.Cut.TheVariants.{Duplicate, Unknown, FullEvents, FullMentions, FullLinks}
use Rattle.ec_axioms.specs.Calculus.{PlainEvent}
use Rattle.ec_axioms.specs.Changes.{PlainUpdate, after_update, has_id, with_event, without_event}
use Rattle.ec_axioms.specs.Links.{link_count, mentions_of, most_events, most_links, most_mentions}
use Rattle.ec_changes.specs.Found.{event_with}
use Rattle.ec_changes.proofs.FoundEvents.{event_with-put, event_with-taken, has_id-found, length-without_event, with-without_event, without-with_event}
use Rattle.ec_replies.specs.RunLaws.{IsListWithinLimits}
use Rattle.ec_replies.specs.Updates.{asserted, retracted, updated, updated_from, with_few_mentions}
use Rattle.ec_replies.proofs.Limits.{updated-within}
use Rattle.ec_past.specs.Records.{AreMade, IsMade, PlainRecord, added, redo_of, redone, redone_one, removed, undo_of, undone, undone_one, undos_of}

-- ---- a way from list to list

-- updates lead from one list to another, each accepted on the list that those before it leave
abbrev pub Leads : Theory → List PlainEvent → List PlainUpdate → List PlainEvent → Type 0
Leads theory before [] after = before ≡ after
Leads theory before (update ∷ updates) after = (next : List PlainEvent) × (updated theory before update ≡ Ok next) × Leads theory next updates after

-- two ways, one behind the other
pub Leads-append : (theory : Theory) (before middle after : List PlainEvent) (updates more : List PlainUpdate) → Leads theory before updates middle → Leads theory middle more after
    → Leads theory before (updates ++ more) after
Leads-append theory before middle after [] more first rest = subst (λ (events : List PlainEvent). Leads theory events more after) (sym first) rest
Leads-append theory before middle after (update ∷ updates) more first rest = (first.0, first.1, Leads-append theory first.0 middle after updates more first.2 rest)

-- a way is accepted as a whole
pub updated_from-Leads : (theory : Theory) (place : ℕ) (before after : List PlainEvent) (updates : List PlainUpdate) → Leads theory before updates after → updated_from theory place before updates ≡ Ok after
unfolding updated_from
updated_from-Leads theory place before after [] leads = ap Ok leads
updated_from-Leads theory place before after (update ∷ updates) leads =
    ap (λ r. after_update place r (λ next. updated_from theory (place + 1) next updates)) leads.1 ∙ updated_from-Leads theory (place + 1) leads.0 after updates leads.2

-- what is accepted as a whole is a way
pub Leads-updated_from : (theory : Theory) (place : ℕ) (before after : List PlainEvent) (updates : List PlainUpdate) → updated_from theory place before updates ≡ Ok after → Leads theory before updates after
unfolding updated_from
Leads-updated_from theory place before after [] is = cc
Leads-updated_from theory place before after (update ∷ updates) is =
    by_result (updated theory before update) refl is (λ next rest. Leads-updated_from theory (place + 1) next after updates rest)
  where
    by_result : (r : Result (List PlainEvent) Cut) → updated theory before update ≡ r → after_update place r (λ next. updated_from theory (place + 1) next updates) ≡ Ok after
        → ((next : List PlainEvent) → updated_from theory (place + 1) next updates ≡ Ok after → Leads theory next updates after)
        → Leads theory before (update ∷ updates) after
    by_result (Ok next) here is rest = (next, here, rest next is)
    by_result (Err cut) here is rest = cc

-- a way goes by the list that its first part leads to
pub Leads-behind : (theory : Theory) (before middle after : List PlainEvent) (updates more : List PlainUpdate) → Leads theory before updates middle → Leads theory before (updates ++ more) after
    → Leads theory middle more after
Leads-behind theory before middle after [] more first all = subst (λ (events : List PlainEvent). Leads theory events more after) first all
Leads-behind theory before middle after (update ∷ updates) more first all =
    let same : first.0 ≡ all.0 = cc in
    Leads-behind theory first.0 middle after updates more first.2 (subst (λ (events : List PlainEvent). Leads theory events (updates ++ more) after) (sym same) all.2)

-- ---- one update

-- an identity that is taken out is absent
absent-without : (id : List ℕ) (events : List PlainEvent) → IsFalse (has_id id (without_event id events))
absent-without id events = has_id-found id (without_event id events) ∙ ap is_some (event_with-taken id id events ∙ cond-true (bytes_eq id id) _ _ ((bytes_eq-Decides id id).1 refl))

-- one that is put in is present
present-with : (e : PlainEvent) (events : List PlainEvent) → IsFalse (has_id e.id events) → IsTrue (has_id e.id (with_event e events))
present-with e events absent = has_id-found e.id (with_event e events) ∙ ap is_some (event_with-put e.id e events absent ∙ cond-true (bytes_eq e.id e.id) _ _ ((bytes_eq-Decides e.id e.id).1 refl))

-- an event that is asserted was absent
pub absent-asserted : (theory : Theory) (before after : List PlainEvent) (e : PlainEvent) → asserted theory before e ≡ Ok after → IsFalse (has_id e.id before)
unfolding asserted
absent-asserted theory before after e is = by_test (has_id e.id before) refl is
  where
    by_test : (present : Bool) → has_id e.id before ≡ present
        → cond present (Err (Duplicate e.id)) (cond (leb most_events (length before)) (Err FullEvents) (with_few_mentions theory (with_event e before))) ≡ Ok after → IsFalse (has_id e.id before)
    by_test true here is = cc
    by_test false here is = here

-- and is put into its place
pub with-asserted : (theory : Theory) (before after : List PlainEvent) (e : PlainEvent) → asserted theory before e ≡ Ok after → after ≡ with_event e before
unfolding asserted with_few_mentions
with-asserted theory before after e is =
    by_tests (has_id e.id before) (leb most_events (length before)) (ltb most_mentions (length (mentions_of theory (with_event e before)))) (ltb most_links (link_count theory (with_event e before))) is
  where
    by_tests : (present full many linked : Bool)
        → cond present (Err (Duplicate e.id)) (cond full (Err FullEvents) (cond many (Err FullMentions) (cond linked (Err FullLinks) (Ok (with_event e before))))) ≡ Ok after → after ≡ with_event e before
    by_tests true full many linked is = cc
    by_tests false true many linked is = cc
    by_tests false false true linked is = cc
    by_tests false false false true is = cc
    by_tests false false false false is = cc

-- an event that is retracted is taken out, where it was there
pub without-retracted : (before : List PlainEvent) (id : List ℕ) → IsTrue (has_id id before) → retracted before id ≡ Ok (without_event id before)
unfolding retracted
without-retracted before id there = cond-true (has_id id before) _ _ there

-- and refused where it was not
pub absent-retracted : (before after : List PlainEvent) (id : List ℕ) → IsFalse (has_id id before) → retracted before id ≡ Ok after → ⊥
unfolding retracted
absent-retracted before after id absent is = by_test (has_id id before) absent is
  where
    by_test : (present : Bool) → present ≡ false → cond present (Ok (without_event id before)) (Err (Unknown id)) ≡ Ok after → ⊥
    by_test true here is = false≢true (sym here)
    by_test false here is = cc

-- an event that was there can be put back
put_back : (theory : Theory) (before : List PlainEvent) (e : PlainEvent) → IsListWithinLimits theory before → event_with e.id before ≡ Some e
    → asserted theory (without_event e.id before) e ≡ Ok before
unfolding asserted with_few_mentions
put_back theory before e within there =
    cond-false (has_id e.id (without_event e.id before)) _ _ (absent-without e.id before)
    ∙ cond-false (leb most_events (length (without_event e.id before))) _ _ (lt-leb most_events (length (without_event e.id before)) fewer)
    ∙ ap (λ events. with_few_mentions theory events) (with-without_event e before within.history there)
    ∙ cond-false (ltb most_mentions (length (mentions_of theory before))) _ _ (le-ltb _ _ within.few_mentions)
    ∙ cond-false (ltb most_links (link_count theory before)) _ _ (le-ltb _ _ within.few_links)
  where
    fewer : length (without_event e.id before) < most_events
    fewer =
        let shorter = length-without_event e.id before within.history (has_id-found e.id before ∙ ap is_some there) in
        let few = within.few_events in
        omega arith

-- what was made is taken back
pub undone_one-made : (theory : Theory) (before : List PlainEvent) (made : PlainRecord) → IsListWithinLimits theory before → IsMade theory before made
    → undone_one made (redone_one made before) ≡ before
undone_one-made theory before (added e) within is = without-with_event e before within.history (absent-asserted theory before _ e is.accepted)
undone_one-made theory before (removed e) within is = with-without_event e before within.history is.there

-- and is accepted
undo-made : (theory : Theory) (before : List PlainEvent) (made : PlainRecord) → IsListWithinLimits theory before → IsMade theory before made
    → updated theory (redone_one made before) (undo_of made) ≡ Ok before
unfolding retracted
undo-made theory before (added e) within is =
    let absent = absent-asserted theory before (with_event e before) e is.accepted in
    cond-true (has_id e.id (with_event e before)) _ _ (present-with e before absent) ∙ ap Ok (without-with_event e before within.history absent)
undo-made theory before (removed e) within is = put_back theory before e within is.there

-- ---- records, one behind the other

-- what was made leads there
pub Leads-redone : (theory : Theory) (before : List PlainEvent) (records : List PlainRecord) → AreMade theory before records → Leads theory before (map redo_of records) (redone records before)
Leads-redone theory before [] made = refl
Leads-redone theory before (first ∷ records) made = (redone_one first before, made.0.accepted, Leads-redone theory (redone_one first before) records made.1)

-- and stays within the limits
pub redone-within : (theory : Theory) (before : List PlainEvent) (records : List PlainRecord) → IsListWithinLimits theory before → AreMade theory before records
    → IsListWithinLimits theory (redone records before)
redone-within theory before [] within made = within
redone-within theory before (first ∷ records) within made =
    redone-within theory (redone_one first before) records (updated-within theory before (redone_one first before) (redo_of first) within made.0.accepted) made.1

-- it is taken back
pub undone-redone : (theory : Theory) (before : List PlainEvent) (records : List PlainRecord) → IsListWithinLimits theory before → AreMade theory before records
    → undone records (redone records before) ≡ before
undone-redone theory before [] within made = refl
undone-redone theory before (first ∷ records) within made =
    let next = updated-within theory before (redone_one first before) (redo_of first) within made.0.accepted in
    ap (undone_one first) (undone-redone theory (redone_one first before) records next made.1) ∙ undone_one-made theory before first within made.0

-- by updates that lead back
pub Leads-undone : (theory : Theory) (before : List PlainEvent) (records : List PlainRecord) → IsListWithinLimits theory before → AreMade theory before records
    → Leads theory (redone records before) (undos_of records) before
Leads-undone theory before [] within made = refl
Leads-undone theory before (first ∷ records) within made =
    let next = updated-within theory before (redone_one first before) (redo_of first) within made.0.accepted in
    Leads-append theory (redone records (redone_one first before)) (redone_one first before) before (undos_of records) (undo_of first ∷ [])
    (Leads-undone theory (redone_one first before) records next made.1) (before, undo-made theory before first within made.0, refl)
