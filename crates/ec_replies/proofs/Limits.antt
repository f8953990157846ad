-- The list of events, the drafts, the past and the watches stay within the limits.
use Rattle.std.proofs.Common.{◌≡◌, ℕ, ◌+◌, ◌≤◌, ◌⊎◌, inl, inr, Bool, true, false, not, cond, ltb, leb, length, List, [], ◌∷◌, ◌++◌, Option, Some, None, Result, Ok, Err, IsTrue, refl, sym, ◌∙◌, subst, arith, length-append}
use Rattle.std.specs.Prelude.{bytes_eq}
use Rattle.std.specs.List.Sorted.{IsPermutation}
use Rattle.std.proofs.lemmas.Slice.Eq.{bytes_eq-Decides}
use Rattle.std.proofs.lemmas.Bool.{ltb-false, leb-false}
use Rattle.std.proofs.lemmas.List.{length-set, length-replicate}
use Rattle.std.proofs.lemmas.List.Elements.{All-cons, All-nil}
use Rattle.std.proofs.lemmas.List.Sorted.{length_permutation}
use Rattle.ec_lists.proofs.Filters.{length-filter_le}
use Rattle.ec_terms.specs.declared.theory.Theory.{Theory}
use Rattle.ec_terms.specs.declared.ground.Ground.{Ground}
use Rattle.ec_axioms.specs.declared.event.Cut.{Cut}
use Rattle.ec_axioms.specs.declared.event.Cut.TheVariants.{Duplicate, Unknown, FullEvents, FullMentions, FullLinks}
use Rattle.ec_commands.specs.declared.limits.TheConstants.{MOST_DRAFTED, MOST_PAST, SESSIONS}
use Rattle.ec_axioms.specs.Calculus.{PlainEvent}
use Rattle.ec_axioms.specs.Changes.{PlainUpdate, asserting, retracting, after_update, is_history, has_id, comes_before, with_event, without_event}
use Rattle.ec_commands.specs.Commands.{PlainCommand, parsed_of}
use Rattle.ec_axioms.specs.Links.{with_property, mentions_of, event_mentions, link_count, most_events, most_mentions, most_links}
use Rattle.ec_commands.specs.Lines.{is_long}
use Rattle.ec_axioms.proofs.Histories.{is_history-with_event, is_history-without_event}
use Rattle.ec_axioms.proofs.Members.{IsMember, list_any-member}
use Rattle.ec_changes.specs.LinkLaws.{links_of}
use Rattle.ec_changes.proofs.LinkSteps.{LinksAreOfMentions-law, LinksInAnyOrder-law, OneMentionMore-law}
use Rattle.ec_changes.proofs.EventMentions.{MentionsWithoutEvent-law}
use Rattle.ec_changes.proofs.KeptEvents.{has_event-member}
use Rattle.ec_replies.specs.Past.{Accepted, commit_weight, empty_past, with_accepted}
use Rattle.ec_replies.specs.State.{Draft, State, with_draft, watched_by, with_watched, empty_state}
use Rattle.ec_replies.specs.Updates.{updated, updated_from, asserted, retracted, with_few_mentions}
use Rattle.ec_replies.specs.Replies.{Language, Reply, session_of, revised, without_property}
use Rattle.ec_replies.specs.Runs.{Step, Run, RunsOn, is_quit}
use Rattle.ec_replies.specs.Laws.{line_command, line_prefix}
use Rattle.ec_replies.specs.RunLaws.{AreWatched, IsListWithinLimits, IsStateWithinLimits, RunsStayWithinLimits, held_count}
use Rattle.ec_replies.proofs.Drafts.{draft_of-empty_state}
use Rattle.ec_replies.proofs.Watched.{AreWatched-none, AreWatched-with, AreWatched-without, each-set, none_watched}
use Rattle.ec_replies.proofs.Windows.{WindowsAreWidest-law, length-within_window, within_window-All}
use Rattle.ec_replies.proofs.Outcomes.{Outcome, is_kept, is_updated, is_held, is_begun, is_committed, is_dropped, is_watching, is_unwatched, LineOutcome, step_outcome}

-- ---- lists of events

-- the list with an event has one event more
pub length-with_event : (e : PlainEvent) (events : List PlainEvent) → length (with_event e events) ≡ length events + 1
unfolding with_event
length-with_event e [] = refl
length-with_event e (f ∷ events) = by_place (comes_before e f) (length-with_event e events)
  where
    by_place : (before : Bool) → length (with_event e events) ≡ length events + 1
        → length (cond before (e ∷ f ∷ events) (f ∷ with_event e events)) ≡ length (f ∷ events) + 1
    by_place true longer = omega arith
    by_place false longer = omega arith

-- the list without one has no more
length-without_event : (id : List ℕ) (events : List PlainEvent) → length (without_event id events) ≤ length events
unfolding without_event
length-without_event id events = length-filter_le (λ e. not (bytes_eq e.id id)) events

-- fewer mentions have no more links
pub links_of-append : (theory : Theory) (ps qs : List Ground) → links_of theory qs ≤ links_of theory (ps ++ qs)
links_of-append theory [] qs = omega arith
links_of-append theory (p ∷ ps) qs =
    let here = OneMentionMore-law theory p (ps ++ qs) in
    let rest = links_of-append theory ps qs in
    omega arith

-- a list of events without one has no more mentions and links
module _ (theory : Theory) (id : List ℕ) (events : List PlainEvent) (history : IsTrue (is_history events)) (present : IsTrue (has_id id events)) where
  without-fewer : (length (mentions_of theory (without_event id events)) ≤ length (mentions_of theory events))
      × (link_count theory (without_event id events) ≤ link_count theory events)
  unfolding has_id
  without-fewer = by_event (list_any-member (λ e. bytes_eq e.id id) events present)
    where
      by_event : (e : PlainEvent) × IsMember events e × IsTrue (bytes_eq e.id id)
          → (length (mentions_of theory (without_event id events)) ≤ length (mentions_of theory events))
          × (link_count theory (without_event id events) ≤ link_count theory events)
      by_event found =
          let e = found.0 in
          let same : e.id ≡ id = (bytes_eq-Decides e.id id).0 found.2 in
          let moved = subst (λ (i : List ℕ). IsPermutation (event_mentions theory e ++ mentions_of theory (without_event i events)) (mentions_of theory events)) same
          (MentionsWithoutEvent-law theory e events history (has_event-member events e found.1)) in
          let mine = event_mentions theory e in
          let rest = mentions_of theory (without_event id events) in
          let all = mentions_of theory events in
          let long = length_permutation (mine ++ rest) all moved in
          let links = (LinksInAnyOrder-law theory (mine ++ rest) all moved).1 in
          let fewer = links_of-append theory mine rest in
          let whole = LinksAreOfMentions-law theory events in
          let part = LinksAreOfMentions-law theory (without_event id events) in
          (omega (arith, length-append mine rest), omega arith)

-- ---- updates

-- an update that is accepted leaves a list within the limits
pub updated-within : (theory : Theory) (events after : List PlainEvent) (update : PlainUpdate) → IsListWithinLimits theory events
    → updated theory events update ≡ Ok after → IsListWithinLimits theory after
unfolding asserted retracted with_few_mentions
updated-within theory events after (asserting e) within is =
    by_tests (has_id e.id events) (leb most_events (length events)) (ltb most_mentions (length (mentions_of theory (with_event e events))))
    (ltb most_links (link_count theory (with_event e events))) refl refl refl refl is
  where
    by_tests : (present full many linked : Bool) → has_id e.id events ≡ present → leb most_events (length events) ≡ full
        → ltb most_mentions (length (mentions_of theory (with_event e events))) ≡ many → ltb most_links (link_count theory (with_event e events)) ≡ linked
        → cond present (Err (Duplicate e.id)) (cond full (Err FullEvents) (cond many (Err FullMentions) (cond linked (Err FullLinks) (Ok (with_event e events))))) ≡ Ok after
        → IsListWithinLimits theory after
    by_tests true full many linked absent room few fewer is = cc
    by_tests false true many linked absent room few fewer is = cc
    by_tests false false true linked absent room few fewer is = cc
    by_tests false false false true absent room few fewer is = cc
    by_tests false false false false absent room few fewer is =
        let same : with_event e events ≡ after = cc in
        let longer = length-with_event e events in
        let below = leb-false most_events (length events) room in
        subst (IsListWithinLimits theory) same (record {
          history = is_history-with_event e events within.history absent;
          few_events = omega arith;
          few_mentions = ltb-false most_mentions (length (mentions_of theory (with_event e events))) few;
          few_links = ltb-false most_links (link_count theory (with_event e events)) fewer;
        })
updated-within theory events after (retracting id) within is = by_test (has_id id events) refl is
  where
    by_test : (present : Bool) → has_id id events ≡ present → cond present (Ok (without_event id events)) (Err (Unknown id)) ≡ Ok after → IsListWithinLimits theory after
    by_test false absent is = cc
    by_test true present is =
        let same : without_event id events ≡ after = cc in
        let fewer = without-fewer theory id events within.history present in
        let shorter = length-without_event id events in
        let few = within.few_events in
        let mentions = within.few_mentions in
        let links = within.few_links in
        subst (IsListWithinLimits theory) same (record {
          history = is_history-without_event id events within.history;
          few_events = omega arith;
          few_mentions = omega arith;
          few_links = omega arith;
        })

-- and so do several that are accepted together
updated_from-within : (theory : Theory) (place : ℕ) (events after : List PlainEvent) (updates : List PlainUpdate) → IsListWithinLimits theory events
    → updated_from theory place events updates ≡ Ok after → IsListWithinLimits theory after
unfolding updated_from
updated_from-within theory place events after [] within is = let same : events ≡ after = cc in subst (IsListWithinLimits theory) same within
updated_from-within theory place events after (update ∷ updates) within is =
    by_result (updated theory events update) refl is (λ next small rest. updated_from-within theory (place + 1) next after updates small rest)
  where
    by_result : (result : Result (List PlainEvent) Cut) → updated theory events update ≡ result
        → after_update place result (λ next. updated_from theory (place + 1) next updates) ≡ Ok after
        → ((next : List PlainEvent) → IsListWithinLimits theory next → updated_from theory (place + 1) next updates ≡ Ok after → IsListWithinLimits theory after)
        → IsListWithinLimits theory after
    by_result (Ok next) here is rest = rest next (updated-within theory events next update within here) is
    by_result (Err cut) here is rest = cc

-- ---- drafts

-- another draft, and other watches
with_draft-within : (theory : Theory) (session : ℕ) (draft : Draft) (state : State) → held_count draft ≤ MOST_DRAFTED → IsStateWithinLimits theory state
    → IsStateWithinLimits theory (with_draft session draft state)
with_draft-within theory session draft state small within = record {
  list = within.list;
  sessions = length-set state.drafts session draft ∙ within.sessions;
  drafts = λ k. each-set (λ (d : Draft). held_count d ≤ MOST_DRAFTED) state.drafts session k draft None within.drafts small (omega arith);
  past = within.past;
  room = within.room;
  kept = within.kept;
  watching = within.watching;
  watches = within.watches;
}

with_watched-within : (theory : Theory) (session : ℕ) (watched : List Ground) (state : State) → AreWatched watched → IsStateWithinLimits theory state
    → IsStateWithinLimits theory (with_watched session watched state)
with_watched-within theory session watched state are within = record {
  list = within.list;
  sessions = within.sessions;
  drafts = within.drafts;
  past = within.past;
  room = within.room;
  kept = within.kept;
  watching = length-set state.watches session watched ∙ within.watching;
  watches = λ k. each-set AreWatched state.watches session k watched [] within.watches are AreWatched-none;
}

-- another list, with the one before it in the past
revised-within : (theory : Theory) (weight : ℕ) (state : State) (events : List PlainEvent) → IsListWithinLimits theory events → IsStateWithinLimits theory state
    → IsStateWithinLimits theory (revised theory weight state events)
unfolding with_accepted
revised-within theory weight state events list within =
    let update : Accepted = record { before = state.events; weight = weight } in
    let shorter = length-within_window MOST_PAST (update ∷ state.past.kept) in
    let counted = within.kept in record {
      list = list;
      sessions = within.sessions;
      drafts = within.drafts;
      past = within_window-All (λ (u : Accepted). IsListWithinLimits theory u.before) MOST_PAST (update ∷ state.past.kept)
          (All-cons (λ (u : Accepted). IsListWithinLimits theory u.before) update state.past.kept within.list within.past);
      room = (WindowsAreWidest-law MOST_PAST (update ∷ state.past.kept)).fits;
      kept = omega arith;
      watching = within.watching;
      watches = within.watches;
    }

-- ---- steps and runs

Outcome-within : (language : Language) (prefix : Option ℕ) (session : ℕ) (state : State) (command : PlainCommand) (reply : Reply) → IsStateWithinLimits language.theory state
    → Outcome language prefix session state command reply → IsStateWithinLimits language.theory reply.after
Outcome-within language prefix session state command reply within (is_kept text none) = within
Outcome-within language prefix session state command reply within (is_updated update events changes closed is) =
    revised-within language.theory 1 state events (updated-within language.theory state.events events update within.list is) within
Outcome-within language prefix session state command reply within (is_held held update opened room) =
    with_draft-within language.theory session (Some (held ++ update ∷ [])) state (omega (arith, length-append held (update ∷ []))) within
Outcome-within language prefix session state command reply within (is_begun keeps closed) = with_draft-within language.theory session (Some []) state (omega arith) within
Outcome-within language prefix session state command reply within (is_committed held events changes opened is) =
    with_draft-within language.theory session None (revised language.theory (commit_weight held) state events) (omega arith)
    (revised-within language.theory (commit_weight held) state events (updated_from-within language.theory 1 state.events events held within.list is) within)
Outcome-within language prefix session state command reply within (is_dropped held keeps opened) = with_draft-within language.theory session None state (omega arith) within
Outcome-within language prefix session state command reply within (is_watching p asks new room) =
    with_watched-within language.theory session (with_property p (watched_by session state)) state (AreWatched-with p (watched_by session state) room (within.watches session)) within
Outcome-within language prefix session state command reply within (is_unwatched p asks was) =
    with_watched-within language.theory session (without_property p (watched_by session state)) state (AreWatched-without p (watched_by session state) (within.watches session)) within

pub step-within : (language : Language) (state after : State) (line text : List ℕ) → IsStateWithinLimits language.theory state → Step language state line text after
    → IsStateWithinLimits language.theory after
step-within language state after line text within step = by_length (step_outcome language state after line text step)
  where
    by_length : ((is_long line ≡ true) × (after ≡ state)) ⊎ ((is_long line ≡ false) × LineOutcome language state line text after) → IsStateWithinLimits language.theory after
    by_length (inl long) = subst (IsStateWithinLimits language.theory) (sym long.1) within
    by_length (inr short) =
        Outcome-within language (line_prefix language line) (session_of (parsed_of language.spelt line)) state (line_command language line)
        (record { text = text; after = after }) within short.1

run-within : (language : Language) (state after : State) (lines : List (List ℕ)) (out : List ℕ) → IsStateWithinLimits language.theory state
    → Run language state lines out after → IsStateWithinLimits language.theory after
run-within language state after [] out within run = subst (IsStateWithinLimits language.theory) (sym run.1) within
run-within language state after (line ∷ lines) out within run =
    by_quit (is_quit language line) run.3 (step-within language state run.1 line run.0 within run.2) (λ rest small. run-within language run.1 after lines rest small)
  where
    by_quit : (quits : Bool) → RunsOn quits run.0 run.1 out after (λ rest. Run language run.1 lines rest after) → IsStateWithinLimits language.theory run.1
        → ((rest : List ℕ) → IsStateWithinLimits language.theory run.1 → Run language run.1 lines rest after → IsStateWithinLimits language.theory after)
        → IsStateWithinLimits language.theory after
    by_quit true on small later = subst (IsStateWithinLimits language.theory) (sym on.1) small
    by_quit false on small later = later on.0 small on.2

-- before the first line
empty_state-within : (theory : Theory) → IsStateWithinLimits theory empty_state
unfolding empty_state empty_past is_history mentions_of link_count
empty_state-within theory = record {
  list = record { history = refl; few_events = omega arith; few_mentions = omega arith; few_links = omega arith };
  sessions = length-replicate {A = Draft} SESSIONS None;
  drafts = λ session. subst (λ (d : Draft). held_count d ≤ MOST_DRAFTED) (sym (draft_of-empty_state session)) (omega arith);
  past = All-nil (λ (update : Accepted). IsListWithinLimits theory update.before);
  room = omega arith;
  kept = omega arith;
  watching = length-replicate {A = List Ground} SESSIONS [];
  watches = λ session. subst AreWatched (sym (none_watched session)) AreWatched-none;
}

pub RunsStayWithinLimits-law : RunsStayWithinLimits
RunsStayWithinLimits-law language lines out after run = run-within language empty_state after lines out (empty_state-within language.theory) run
