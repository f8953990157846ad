-- A reply depends on the events, the counts, the session's own draft, the past and the watches.
use Rattle.std.proofs.Common.{◌≡◌, ℕ, Bool, true, false, not, eqb, ltb, leb, length, get_or, List, [], ◌∷◌, ◌++◌, Option, Some, None, Result, Ok, Err, IsTrue, refl, sym, ap, ◌∙◌, subst}
use Rattle.std.proofs.lemmas.Bool.{and_parts, not-true, eqb-true}
use Rattle.std.proofs.lemmas.List.{length-set}
use Rattle.ec_terms.specs.declared.ground.Ground.{Ground}
use Rattle.ec_axioms.specs.declared.event.Cut.{Cut}
use Rattle.ec_axioms.specs.declared.event.Seen.{Seen}
use Rattle.ec_axioms.specs.Links.{with_property}
use Rattle.ec_commands.specs.declared.limits.TheConstants.{MOST_DRAFTED, MOST_WATCHED}
use Rattle.ec_axioms.specs.Calculus.{PlainEvent}
use Rattle.ec_axioms.specs.Changes.{PlainUpdate, asserting, retracting, PlacedCut}
use Rattle.ec_commands.specs.Lines.{is_long}
use Rattle.ec_commands.specs.Commands.{PlainCommand, silent, bad, assert_event, retract_event, begin_draft, commit_draft, abort_draft, ask, ask_past, ask_pairs, ask_related, watch_prop, unwatch_prop, ask_last, quit, PlainParsed, parsed_of}
use Rattle.ec_commands.specs.Answers.{answer_last, answer_text, refused_long_line}
use Rattle.ec_commands.specs.QueryTexts.{pairs_reply, related_reply}
use Rattle.ec_replies.specs.Notes.{notes_text}
use Rattle.ec_replies.specs.Past.{Past, commit_weight}
use Rattle.ec_replies.specs.State.{Draft, State, draft_of, with_draft, watched_by, with_watched}
use Rattle.ec_replies.specs.Updates.{updated, updated_by}
use Rattle.ec_replies.specs.Replies.{Language, Reply, session_of, reply_line, answering, revised, noted, query_text, past_text, is_watched, without_property, reply_to_watch, reply_to_unwatch, update_reply, drafted_reply, commit_reply, reply_to_update, reply_to_begin, reply_to_commit, reply_to_abort, command_reply, parsed_reply, reply_of}
use Rattle.ec_replies.specs.Laws.{IsSameTo, RepliesDependOnOwnDraft, QueriesIgnoreDrafts, PastQueriesIgnoreDrafts, is_line_of, is_query, is_past_query, line_command, line_prefix}
use Rattle.ec_replies.proofs.Drafts.{get_or-set_both}
use Rattle.ec_replies.proofs.ByDraft.{reply_to_update-closed, reply_to_begin-closed, reply_to_commit-closed, reply_to_abort-closed, reply_to_update-open, reply_to_begin-open, reply_to_commit-open, reply_to_abort-open}

-- ---- lines

-- a long line, and one that is not
pub reply_of-long : (language : Language) (state : State) (line : List ℕ) → is_long line ≡ true → reply_of language state line ≡ answering None refused_long_line state
unfolding reply_of
reply_of-long language state line long = rw (long, reply_of)

pub reply_of-short : (language : Language) (state : State) (line : List ℕ) → is_long line ≡ false
    → reply_of language state line ≡ parsed_reply language state (parsed_of language.spelt line)
unfolding reply_of
reply_of-short language state line short = rw (short, reply_of)

-- a line of a session is not long and says what the session says
pub is_line_of-parts : (language : Language) (session : ℕ) (line : List ℕ) → IsTrue (is_line_of language session line)
    → (is_long line ≡ false) × (session_of (parsed_of language.spelt line) ≡ session)
unfolding is_line_of
is_line_of-parts language session line own =
    let parts = and_parts (not (is_long line)) (eqb (session_of (parsed_of language.spelt line)) session) own in
    (not-true (is_long line) parts.0, eqb-true (session_of (parsed_of language.spelt line)) session parts.1)

-- ---- two states that differ in other drafts alone

-- two replies have the same text, and leave states that are the same to a session
abbrev AreSame : ℕ → Reply → Reply → Type 0
AreSame session reply other = (reply.text ≡ other.text) × IsSameTo session reply.after other.after

AreSame-by : (session : ℕ) (reply other first second : Reply) → reply ≡ first → other ≡ second → AreSame session first second → AreSame session reply other
AreSame-by session reply other first second is_first is_second same =
    subst (λ (r : Reply). AreSame session r other) (sym is_first) (subst (λ (r : Reply). AreSame session first r) (sym is_second) same)

module _ (language : Language) (prefix : Option ℕ) (session : ℕ) (state : State) (drafts : List Draft)
    (agrees : draft_of session state ≡ get_or drafts session None) (as_many : length state.drafts ≡ length drafts) where
  -- the state with other drafts
  abbrev other : State
  other = record state { drafts = drafts }

  same_here : IsSameTo session state other
  same_here = record { events = refl; last = refl; draft = agrees; sessions = as_many; past = refl; watches = refl }

  same_with : (draft : Draft) → IsSameTo session (with_draft session draft state) (with_draft session draft other)
  same_with draft = record {
    events = refl;
    last = refl;
    draft = get_or-set_both state.drafts drafts session draft None as_many;
    sessions = length-set state.drafts session draft ∙ as_many ∙ sym (length-set drafts session draft);
    past = refl;
    watches = refl;
  }

  same_revised : (weight : ℕ) (events : List PlainEvent) → IsSameTo session (revised language.theory weight state events) (revised language.theory weight other events)
  same_revised weight events = record { events = refl; last = refl; draft = agrees; sessions = as_many; past = refl; watches = refl }

  same_revised_with : (weight : ℕ) (events : List PlainEvent) (draft : Draft)
      → IsSameTo session (with_draft session draft (revised language.theory weight state events)) (with_draft session draft (revised language.theory weight other events))
  same_revised_with weight events draft = record {
    events = refl;
    last = refl;
    draft = get_or-set_both state.drafts drafts session draft None as_many;
    sessions = length-set state.drafts session draft ∙ as_many ∙ sym (length-set drafts session draft);
    past = refl;
    watches = refl;
  }

  -- ---- updates and drafts

  same_update : (update : PlainUpdate) → AreSame session (reply_to_update language.theory prefix session state update) (reply_to_update language.theory prefix session other update)
  same_update update = by_draft (draft_of session state) refl
    where
      by_result : (result : Result (List PlainEvent) Cut)
          → AreSame session (update_reply language.theory prefix state result) (update_reply language.theory prefix other result)
      by_result (Ok events) = (refl, same_revised 1 events)
      by_result (Err cut) = (refl, same_here)

      by_place : (held : List PlainUpdate) (b : Bool) → ltb (length held) MOST_DRAFTED ≡ b
          → AreSame session (drafted_reply prefix session state held update) (drafted_reply prefix session other held update)
      by_place held true is = rw is (refl, same_with (Some (held ++ update ∷ [])))
      by_place held false is = rw is (refl, same_here)

      by_draft : (draft : Draft) → draft_of session state ≡ draft
          → AreSame session (reply_to_update language.theory prefix session state update) (reply_to_update language.theory prefix session other update)
      by_draft None is =
          AreSame-by session _ _ _ _ (reply_to_update-closed prefix session state language.theory update is) (reply_to_update-closed prefix session other language.theory update (sym agrees ∙ is))
          (by_result (updated language.theory state.events update))
      by_draft (Some held) is =
          AreSame-by session _ _ _ _ (reply_to_update-open prefix session state language.theory update held is)
          (reply_to_update-open prefix session other language.theory update held (sym agrees ∙ is)) (by_place held (ltb (length held) MOST_DRAFTED) refl)

  same_begin : AreSame session (reply_to_begin prefix session state) (reply_to_begin prefix session other)
  same_begin = by_draft (draft_of session state) refl
    where
      by_draft : (draft : Draft) → draft_of session state ≡ draft → AreSame session (reply_to_begin prefix session state) (reply_to_begin prefix session other)
      by_draft None is =
          AreSame-by session _ _ _ _ (reply_to_begin-closed prefix session state is) (reply_to_begin-closed prefix session other (sym agrees ∙ is)) (refl, same_with (Some []))
      by_draft (Some held) is =
          AreSame-by session _ _ _ _ (reply_to_begin-open prefix session state held is) (reply_to_begin-open prefix session other held (sym agrees ∙ is)) (refl, same_here)

  same_commit : AreSame session (reply_to_commit language.theory prefix session state) (reply_to_commit language.theory prefix session other)
  same_commit = by_draft (draft_of session state) refl
    where
      by_result : (weight : ℕ) (result : Result (List PlainEvent) PlacedCut)
          → AreSame session (commit_reply language.theory prefix session state weight result) (commit_reply language.theory prefix session other weight result)
      by_result weight (Ok events) = (refl, same_revised_with weight events None)
      by_result weight (Err placed) = (refl, same_here)

      by_draft : (draft : Draft) → draft_of session state ≡ draft
          → AreSame session (reply_to_commit language.theory prefix session state) (reply_to_commit language.theory prefix session other)
      by_draft None is =
          AreSame-by session _ _ _ _ (reply_to_commit-closed prefix session state language.theory is) (reply_to_commit-closed prefix session other language.theory (sym agrees ∙ is)) (refl, same_here)
      by_draft (Some held) is =
          AreSame-by session _ _ _ _ (reply_to_commit-open prefix session state language.theory held is)
          (reply_to_commit-open prefix session other language.theory held (sym agrees ∙ is)) (by_result (commit_weight held) (updated_by language.theory state.events held))

  same_abort : AreSame session (reply_to_abort prefix session state) (reply_to_abort prefix session other)
  same_abort = by_draft (draft_of session state) refl
    where
      by_draft : (draft : Draft) → draft_of session state ≡ draft → AreSame session (reply_to_abort prefix session state) (reply_to_abort prefix session other)
      by_draft None is =
          AreSame-by session _ _ _ _ (reply_to_abort-closed prefix session state is) (reply_to_abort-closed prefix session other (sym agrees ∙ is)) (refl, same_here)
      by_draft (Some held) is =
          AreSame-by session _ _ _ _ (reply_to_abort-open prefix session state held is) (reply_to_abort-open prefix session other held (sym agrees ∙ is)) (refl, same_with None)

  -- notes are the same where the events are
  same_noted : (reply further : Reply) → AreSame session reply further → AreSame session (noted language state reply) (noted language other further)
  same_noted reply further same = (
    ap (λ (text : List ℕ). text ++ notes_text language.theory language.canon state.watches state.events reply.after.events) same.0
        ∙ ap (λ (events : List PlainEvent). further.text ++ notes_text language.theory language.canon state.watches state.events events) same.1.events,
    same.1,
  )

  -- ---- watches

  same_watched : (watched : List Ground) → IsSameTo session (with_watched session watched state) (with_watched session watched other)
  same_watched watched = record { events = refl; last = refl; draft = agrees; sessions = as_many; past = refl; watches = refl }

  same_watch : (p : Ground) → AreSame session (reply_to_watch language prefix session state p) (reply_to_watch language prefix session other p)
  unfolding reply_to_watch
  same_watch p = by_tests (is_watched p (watched_by session state)) refl (leb MOST_WATCHED (length (watched_by session state))) refl
    where
      by_tests : (watches : Bool) → is_watched p (watched_by session state) ≡ watches → (full : Bool) → leb MOST_WATCHED (length (watched_by session state)) ≡ full
          → AreSame session (reply_to_watch language prefix session state p) (reply_to_watch language prefix session other p)
      by_tests true is full room = rw is (refl, same_here)
      by_tests false is true room = rw (is, room) (refl, same_here)
      by_tests false is false room = rw (is, room) (refl, same_watched (with_property p (watched_by session state)))

  same_unwatch : (p : Ground) → AreSame session (reply_to_unwatch prefix session state p) (reply_to_unwatch prefix session other p)
  unfolding reply_to_unwatch
  same_unwatch p = by_test (is_watched p (watched_by session state)) refl
    where
      by_test : (watches : Bool) → is_watched p (watched_by session state) ≡ watches
          → AreSame session (reply_to_unwatch prefix session state p) (reply_to_unwatch prefix session other p)
      by_test true is = rw is (refl, same_watched (without_property p (watched_by session state)))
      by_test false is = rw is (refl, same_here)

  -- ---- commands

  same_command : (command : PlainCommand) → AreSame session (command_reply language prefix session state command) (command_reply language prefix session other command)
  unfolding command_reply past_text
  same_command silent = (refl, same_here)
  same_command bad = (refl, same_here)
  same_command (assert_event id t term) = same_noted _ _ (same_update (asserting (record { id = id; rank = t; term = term })))
  same_command (retract_event id) = same_noted _ _ (same_update (retracting id))
  same_command begin_draft = same_begin
  same_command commit_draft = same_noted _ _ same_commit
  same_command abort_draft = same_abort
  same_command (ask query) = (refl, same_here)
  same_command (ask_past k query) = (refl, same_here)
  same_command (ask_pairs p r q) = (refl, same_here)
  same_command (ask_related p t r q) = (refl, same_here)
  same_command (watch_prop p) = same_watch p
  same_command (unwatch_prop p) = same_unwatch p
  same_command ask_last = (refl, same_here)
  same_command quit = (refl, same_here)

-- ---- the laws

-- a state with all of another but its drafts is that one with other drafts
other-is : (state other : State) → state.events ≡ other.events → state.last ≡ other.last → state.past ≡ other.past → state.watches ≡ other.watches
    → record state { drafts = other.drafts } ≡ other
other-is state other events last past watches =
    ap (λ (e : List PlainEvent). record { events = e; last = state.last; drafts = other.drafts; past = state.past; watches = state.watches }) events
    ∙ ap (λ (l : Seen). record { events = other.events; last = l; drafts = other.drafts; past = state.past; watches = state.watches }) last
    ∙ ap (λ (b : Past). record { events = other.events; last = other.last; drafts = other.drafts; past = b; watches = state.watches }) past
    ∙ ap (λ (w : List (List Ground)). record { events = other.events; last = other.last; drafts = other.drafts; past = other.past; watches = w }) watches

same_parsed : (language : Language) (parsed : PlainParsed) (state other : State) → IsSameTo (session_of parsed) state other
    → AreSame (session_of parsed) (parsed_reply language state parsed) (parsed_reply language other parsed)
same_parsed language parsed state other same =
    subst (λ (o : State). AreSame (session_of parsed) (parsed_reply language state parsed) (parsed_reply language o parsed))
    (other-is state other same.events same.last same.past same.watches)
    (same_command language parsed.session (session_of parsed) state other.drafts same.draft same.sessions parsed.command)

-- a reply to a line of a session depends on what is the same to the session
pub RepliesDependOnOwnDraft-law : RepliesDependOnOwnDraft
RepliesDependOnOwnDraft-law language session state other line own same =
    let parts = is_line_of-parts language session line own in
    let parsed = parsed_of language.spelt line in
    AreSame-by session _ _ _ _ (reply_of-short language state line parts.0) (reply_of-short language other line parts.0)
    (subst (λ (k : ℕ). AreSame k (parsed_reply language state parsed) (parsed_reply language other parsed)) parts.1
    (same_parsed language parsed state other (subst (λ (k : ℕ). IsSameTo k state other) (sym parts.1) same)))

-- the text of a reply to a query of the present, by the events and the counts
query_text-same : (language : Language) (prefix : Option ℕ) (session : ℕ) (state other : State) (command : PlainCommand) → IsTrue (is_query command)
    → state.events ≡ other.events → state.last ≡ other.last
    → (command_reply language prefix session state command).text ≡ (command_reply language prefix session other command).text
unfolding command_reply
query_text-same language prefix session state other silent query events last = cc
query_text-same language prefix session state other bad query events last = cc
query_text-same language prefix session state other (assert_event id t term) query events last = cc
query_text-same language prefix session state other (retract_event id) query events last = cc
query_text-same language prefix session state other begin_draft query events last = cc
query_text-same language prefix session state other commit_draft query events last = cc
query_text-same language prefix session state other abort_draft query events last = cc
query_text-same language prefix session state other (ask asked) query events last = ap (λ (e : List PlainEvent). reply_line prefix (query_text language e asked)) events
query_text-same language prefix session state other (ask_past k asked) query events last = cc
query_text-same language prefix session state other (ask_pairs p r q) query events last =
    ap (λ (e : List PlainEvent). reply_line prefix (pairs_reply language.theory e language.canon p r q)) events
query_text-same language prefix session state other (ask_related p t r q) query events last =
    ap (λ (e : List PlainEvent). reply_line prefix (related_reply language.theory e language.canon p t r q)) events
query_text-same language prefix session state other (watch_prop p) query events last = cc
query_text-same language prefix session state other (unwatch_prop p) query events last = cc
query_text-same language prefix session state other ask_last query events last = ap (λ (l : Seen). reply_line prefix (answer_text (answer_last l))) last
query_text-same language prefix session state other quit query events last = cc

-- and of one about the past, by the events and the past
past_text-same : (language : Language) (prefix : Option ℕ) (session : ℕ) (state other : State) (command : PlainCommand) → IsTrue (is_past_query command)
    → state.events ≡ other.events → state.past ≡ other.past
    → (command_reply language prefix session state command).text ≡ (command_reply language prefix session other command).text
unfolding command_reply past_text
past_text-same language prefix session state other silent query events past = cc
past_text-same language prefix session state other bad query events past = cc
past_text-same language prefix session state other (assert_event id t term) query events past = cc
past_text-same language prefix session state other (retract_event id) query events past = cc
past_text-same language prefix session state other begin_draft query events past = cc
past_text-same language prefix session state other commit_draft query events past = cc
past_text-same language prefix session state other abort_draft query events past = cc
past_text-same language prefix session state other (ask asked) query events past = cc
past_text-same language prefix session state other (ask_past k asked) query events past =
    ap (λ (e : List PlainEvent). (command_reply language prefix session (record state { events = e }) (ask_past k asked)).text) events
    ∙ ap (λ (b : Past). (command_reply language prefix session (record other { past = b }) (ask_past k asked)).text) past
past_text-same language prefix session state other (ask_pairs p r q) query events past = cc
past_text-same language prefix session state other (ask_related p t r q) query events past = cc
past_text-same language prefix session state other (watch_prop p) query events past = cc
past_text-same language prefix session state other (unwatch_prop p) query events past = cc
past_text-same language prefix session state other ask_last query events past = cc
past_text-same language prefix session state other quit query events past = cc

-- two replies to a line have one text where those to its command have, since the reply to a long line has no other
reply_of-same : (language : Language) (state other : State) (line : List ℕ)
    → (command_reply language (line_prefix language line) (session_of (parsed_of language.spelt line)) state (line_command language line)).text
    ≡ (command_reply language (line_prefix language line) (session_of (parsed_of language.spelt line)) other (line_command language line)).text
    → (reply_of language state line).text ≡ (reply_of language other line).text
reply_of-same language state other line same = by_length (is_long line) refl
  where
    by_length : (b : Bool) → is_long line ≡ b → (reply_of language state line).text ≡ (reply_of language other line).text
    by_length true is = ap (λ (r : Reply). r.text) (reply_of-long language state line is) ∙ sym (ap (λ (r : Reply). r.text) (reply_of-long language other line is))
    by_length false is = ap (λ (r : Reply). r.text) (reply_of-short language state line is) ∙ same ∙ sym (ap (λ (r : Reply). r.text) (reply_of-short language other line is))

pub QueriesIgnoreDrafts-law : QueriesIgnoreDrafts
QueriesIgnoreDrafts-law language state other line query events last =
    reply_of-same language state other line
    (query_text-same language (line_prefix language line) (session_of (parsed_of language.spelt line)) state other (line_command language line) query events last)

pub PastQueriesIgnoreDrafts-law : PastQueriesIgnoreDrafts
PastQueriesIgnoreDrafts-law language state other line query events past =
    reply_of-same language state other line
    (past_text-same language (line_prefix language line) (session_of (parsed_of language.spelt line)) state other (line_command language line) query events past)
