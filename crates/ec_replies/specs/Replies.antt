-- The reply of a state to a line, byte for byte, and the state that it leaves.
use Rattle.std.specs.Prelude.{ℕ, ◌+◌, Bool, not, nat_lt, nat_le, int_lt, filter, if◌then◌else◌, List, [], ◌∷◌, ◌++◌, ℤ, Option, Some, None, Result, Ok, Err, length, unwrap_or, true, false}
use Rattle.std.specs.List.{list_any}
use Rattle.ec_terms.specs.declared.ground.Ground.{Ground}
use Rattle.ec_terms.specs.declared.theory.Theory.{Theory}
use Rattle.ec_terms.specs.Term.{term_eq}
use Rattle.ec_axioms.specs.declared.event.Cut.{Cut}
use Rattle.ec_commands.specs.declared.limits.TheConstants.{MOST_DRAFTED, MOST_WATCHED}
use Rattle.ec_axioms.specs.Calculus.{PlainEvent, holds_at, holds_through}
use Rattle.ec_axioms.specs.Changes.{PlainUpdate, asserting, retracting, PlacedCut, change_counts}
use Rattle.ec_axioms.specs.Links.{with_property}
use Rattle.ec_commands.specs.Lines.{is_long, line_feed}
use Rattle.ec_commands.specs.Commands.{PlainQuery, ask_holds, ask_through, ask_intervals, ask_broken, ask_at, ask_clashes, ask_events, ask_why}
use Rattle.ec_commands.specs.Commands.{PlainCommand, silent, bad, assert_event, retract_event, begin_draft, commit_draft, abort_draft, ask, ask_past, ask_pairs, ask_related, watch_prop, unwatch_prop, ask_last, quit, PlainParsed, parsed_of}
use Rattle.ec_commands.specs.Answers.{PlainAnswer, answer_ok, answer_yes, answer_no, answer_bye, answer_drafted, answer_last, refused_long_line, refused_syntax, refused_in_draft, refused_no_draft, refused_full_draft, refused_order, refused_future, refused_gone, refused_watched, refused_full_watches, refused_not_watched, refused_update, refused_commit, answer_text, front_text}
use Rattle.ec_commands.specs.QueryTexts.{Canon, intervals_reply, broken_reply, at_reply, clashes_reply, events_reply, why_reply, pairs_reply, related_reply}
use Rattle.ec_replies.specs.Notes.{notes_text}
use Rattle.ec_replies.specs.Past.{commit_weight, first_kept, list_after, with_accepted}
use Rattle.ec_replies.specs.State.{Draft, State, draft_of, with_draft, watched_by, with_watched}
use Rattle.ec_replies.specs.Updates.{updated, updated_by}

-- What a dialogue goes by: its theory, how times are spelt, and how they are written.
pub record Language : Type 0 where
  pub theory : Theory
  pub spelt : List ℕ → Option ℤ
  pub canon : Canon

-- the bytes of a reply, none for a silent line, and the state after it
pub record Reply : Type 0 where
  pub text : List ℕ
  pub after : State

-- the session of a line: that of its prefix, or session 0
abbrev pub session_of : PlainParsed → ℕ
session_of parsed = unwrap_or parsed.session 0

-- ---- replies

-- a text as the reply of a line with this prefix: prefix, text and line end
abbrev pub reply_line : Option ℕ → List ℕ → List ℕ
reply_line prefix text = front_text prefix ++ text ++ line_feed ∷ []

-- a reply of fixed form, and the state that it leaves
abbrev pub answering : Option ℕ → PlainAnswer → State → Reply
answering prefix answer state = record { text = reply_line prefix (answer_text answer); after = state }

-- the state once an accepted update of this weight left other events
abbrev pub revised : Theory → ℕ → State → List PlainEvent → State
revised theory weight state events = record state {
  events = events;
  last = change_counts theory state.events events;
  past = with_accepted (record { before = state.events; weight = weight }) state.past;
}

-- A reply to an update with its notes: below its line, what the watched properties lost and gained. There is none where the events stay.
abbrev pub noted : Language → State → Reply → Reply
noted language before reply =
    record reply { text = reply.text ++ notes_text language.theory language.canon before.watches before.events reply.after.events }

-- ---- updates

-- an update while the draft is closed: `ok` and the list that it leaves, or its refusal
abbrev pub update_reply : Theory → Option ℕ → State → Result (List PlainEvent) Cut → Reply
update_reply theory prefix state (Ok events) = answering prefix answer_ok (revised theory 1 state events)
update_reply theory prefix state (Err cut) = answering prefix (refused_update cut) state

-- an update while the draft is open: it is held, unless the draft is full
abbrev pub drafted_reply : Option ℕ → ℕ → State → List PlainUpdate → PlainUpdate → Reply
drafted_reply prefix session state held update =
    if nat_lt (length held) MOST_DRAFTED then answering prefix (answer_drafted (length held + 1)) (with_draft session (Some (held ++ update ∷ [])) state)
    else answering prefix refused_full_draft state

-- the reply to an update, by the session's draft
unfoldable pub reply_to_update : Theory → Option ℕ → ℕ → State → PlainUpdate → Reply
reply_to_update theory prefix session state update = by_draft (draft_of session state)
  where
    by_draft : Draft → Reply
    by_draft None = update_reply theory prefix state (updated theory state.events update)
    by_draft (Some held) = drafted_reply prefix session state held update

-- ---- drafts

-- so many held updates together: `ok`, the list that they leave and the draft closed, or the first refusal with its place
abbrev pub commit_reply : Theory → Option ℕ → ℕ → State → ℕ → Result (List PlainEvent) PlacedCut → Reply
commit_reply theory prefix session state weight (Ok events) = answering prefix answer_ok (with_draft session None (revised theory weight state events))
commit_reply theory prefix session state weight (Err placed) = answering prefix (refused_commit placed.0 placed.1) state

-- the replies to `begin`, `commit` and `abort`, by the session's draft
unfoldable pub reply_to_begin : Option ℕ → ℕ → State → Reply
reply_to_begin prefix session state = by_draft (draft_of session state)
  where
    by_draft : Draft → Reply
    by_draft None = answering prefix answer_ok (with_draft session (Some []) state)
    by_draft (Some held) = answering prefix refused_in_draft state

unfoldable pub reply_to_commit : Theory → Option ℕ → ℕ → State → Reply
reply_to_commit theory prefix session state = by_draft (draft_of session state)
  where
    by_draft : Draft → Reply
    by_draft None = answering prefix refused_no_draft state
    by_draft (Some held) = commit_reply theory prefix session state (commit_weight held) (updated_by theory state.events held)

unfoldable pub reply_to_abort : Option ℕ → ℕ → State → Reply
reply_to_abort prefix session state = by_draft (draft_of session state)
  where
    by_draft : Draft → Reply
    by_draft None = answering prefix refused_no_draft state
    by_draft (Some held) = answering prefix answer_ok (with_draft session None state)

-- ---- queries

-- yes or no
abbrev pub yes_or_no : Bool → List ℕ
yes_or_no true = answer_text answer_yes
yes_or_no false = answer_text answer_no

-- whether a property holds through a stretch, whose end must not come before its beginning
abbrev pub through_text : ℤ → ℤ → Bool → List ℕ
through_text from until holds = if int_lt until from then answer_text refused_order else yes_or_no holds

-- the text of the reply to a query of a list of events
unfoldable pub query_text : Language → List PlainEvent → PlainQuery → List ℕ
query_text language events (ask_holds p t) = yes_or_no (holds_at language.theory events p t)
query_text language events (ask_through p s e) = through_text s e (holds_through language.theory events p s e)
query_text language events (ask_intervals p) = intervals_reply language.theory events language.canon p
query_text language events (ask_broken p) = broken_reply language.theory events language.canon p
query_text language events (ask_at t) = at_reply language.theory events t
query_text language events ask_clashes = clashes_reply language.theory events language.canon
query_text language events ask_events = events_reply events language.canon
query_text language events (ask_why p t) = why_reply language.theory events language.canon p t

-- ---- the past

-- the query asks about a stretch whose end comes before its beginning
abbrev pub is_backwards : PlainQuery → Bool
is_backwards (ask_holds p t) = false
is_backwards (ask_through p s e) = int_lt e s
is_backwards (ask_intervals p) = false
is_backwards (ask_broken p) = false
is_backwards (ask_at t) = false
is_backwards ask_clashes = false
is_backwards ask_events = false
is_backwards (ask_why p t) = false

-- The text of the reply to a query of the list after k accepted updates. It is refused, in this order, where it asks backwards,
-- where fewer updates were accepted, and where that list is no longer kept.
unfoldable pub past_text : Language → State → ℕ → PlainQuery → List ℕ
past_text language state k query =
    if is_backwards query then answer_text refused_order
    else (if nat_lt state.past.count k then answer_text (refused_future state.past.count)
    else (if nat_lt k (first_kept state.past) then answer_text (refused_gone (first_kept state.past))
    else query_text language (list_after k state.events state.past) query))

-- ---- watches

-- a property is among some
abbrev pub is_watched : Ground → List Ground → Bool
is_watched p watched = list_any (term_eq p) watched

-- the others
abbrev pub without_property : Ground → List Ground → List Ground
without_property p watched = filter (λ q. not (term_eq p q)) watched

-- the property is watched from then on, and the reply has its intervals; unless it is watched already, or too many are
unfoldable pub reply_to_watch : Language → Option ℕ → ℕ → State → Ground → Reply
reply_to_watch language prefix session state p =
    if is_watched p (watched_by session state) then answering prefix refused_watched state
    else (if nat_le MOST_WATCHED (length (watched_by session state)) then answering prefix refused_full_watches state
    else record {
      text = reply_line prefix (intervals_reply language.theory state.events language.canon p);
      after = with_watched session (with_property p (watched_by session state)) state;
    })

-- the property is watched no more, unless it was not
unfoldable pub reply_to_unwatch : Option ℕ → ℕ → State → Ground → Reply
reply_to_unwatch prefix session state p =
    if is_watched p (watched_by session state) then answering prefix answer_ok (with_watched session (without_property p (watched_by session state)) state)
    else answering prefix refused_not_watched state

-- ---- lines

-- the reply to a command of a session, whose line had this prefix
unfoldable pub command_reply : Language → Option ℕ → ℕ → State → PlainCommand → Reply
command_reply language prefix session state silent = record { text = []; after = state }
command_reply language prefix session state bad = answering prefix refused_syntax state
command_reply language prefix session state (assert_event id t term) =
    noted language state (reply_to_update language.theory prefix session state (asserting (record { id = id; rank = t; term = term })))
command_reply language prefix session state (retract_event id) = noted language state (reply_to_update language.theory prefix session state (retracting id))
command_reply language prefix session state begin_draft = reply_to_begin prefix session state
command_reply language prefix session state commit_draft = noted language state (reply_to_commit language.theory prefix session state)
command_reply language prefix session state abort_draft = reply_to_abort prefix session state
command_reply language prefix session state (ask query) = record { text = reply_line prefix (query_text language state.events query); after = state }
command_reply language prefix session state (ask_past k query) = record { text = reply_line prefix (past_text language state k query); after = state }
command_reply language prefix session state (ask_pairs p r q) = record { text = reply_line prefix (pairs_reply language.theory state.events language.canon p r q); after = state }
command_reply language prefix session state (ask_related p t r q) = record { text = reply_line prefix (related_reply language.theory state.events language.canon p t r q); after = state }
command_reply language prefix session state (watch_prop p) = reply_to_watch language prefix session state p
command_reply language prefix session state (unwatch_prop p) = reply_to_unwatch prefix session state p
command_reply language prefix session state ask_last = answering prefix (answer_last state.last) state
command_reply language prefix session state quit = answering prefix answer_bye state

-- the reply to what a line says
abbrev pub parsed_reply : Language → State → PlainParsed → Reply
parsed_reply language state parsed = command_reply language parsed.session (session_of parsed) state parsed.command

-- the reply to a line
unfoldable pub reply_of : Language → State → List ℕ → Reply
reply_of language state line =
    if is_long line then answering None refused_long_line state else parsed_reply language state (parsed_of language.spelt line)
