-- The laws of replies, as statements. Each is the contract of a function of the module of laws.
use Rattle.std.specs.Prelude.{◌≡◌, ◌<◌, ◌≤◌, ◌⊎◌, ℕ, ◌==◌, Bool, true, false, not, ◌&&◌, ◌||◌, codes, List, [], ◌∷◌, ◌++◌, length, Option, Some, None, Ok, slice_set, IsTrue, IsFalse}
use Rattle.std.specs.List.{slice_index_or}
use Rattle.ec_terms.specs.declared.ground.Ground.{Ground}
use Rattle.ec_terms.specs.declared.theory.Theory.{Theory}
use Rattle.ec_commands.specs.declared.limits.TheConstants.{MOST_DRAFTED, MOST_WATCHED}
use Rattle.ec_axioms.specs.Changes.{PlainUpdate, asserting, retracting, change_counts}
use Rattle.ec_axioms.specs.Links.{with_property}
use Rattle.ec_commands.specs.Lines.{is_long}
use Rattle.ec_commands.specs.Commands.{PlainCommand, silent, bad, assert_event, retract_event, begin_draft, commit_draft, abort_draft, ask, ask_past, ask_pairs, ask_related, watch_prop, unwatch_prop, ask_last, quit, parsed_of}
use Rattle.ec_commands.specs.Answers.{answer_ok, answer_drafted, answer_text, front_text}
use Rattle.ec_commands.specs.QueryTexts.{intervals_reply}
use Rattle.ec_replies.specs.Notes.{notes_text}
use Rattle.ec_replies.specs.Past.{commit_weight, with_accepted}
use Rattle.ec_replies.specs.State.{State, draft_of, with_draft, watched_by, with_watched}
use Rattle.ec_replies.specs.Updates.{updated, updated_by}
use Rattle.ec_replies.specs.Replies.{Language, Reply, session_of, reply_line, is_watched, without_property, reply_of}
use Rattle.ec_replies.specs.Runs.{Step, IsReply, may_want_memory}

-- the line is one of this session; a long line is of none
unfoldable pub is_line_of : Language → ℕ → List ℕ → Bool
is_line_of language session line = not (is_long line) && session_of (parsed_of language.spelt line) == session

-- what a line that is not long asks or tells
abbrev pub line_command : Language → List ℕ → PlainCommand
line_command language line = (parsed_of language.spelt line).command

-- the prefix of a line that is not long
abbrev pub line_prefix : Language → List ℕ → Option ℕ
line_prefix language line = (parsed_of language.spelt line).session

-- ---- what a reply depends on

-- two states are the same to a session: the same events, counts, past and watches, and the same draft of that session, among as many drafts
pub record IsSameTo (session : ℕ) (state other : State) : Type 0 where
  pub events : state.events ≡ other.events
  pub last : state.last ≡ other.last
  pub draft : draft_of session state ≡ draft_of session other
  pub sessions : length state.drafts ≡ length other.drafts
  pub past : state.past ≡ other.past
  pub watches : state.watches ≡ other.watches

-- A reply to a line of a session depends on the events, the counts, the draft of that session, the past and the watches alone: states
-- that agree there give the same text, and the states after it agree there too.
abbrev pub RepliesDependOnOwnDraft : Type 0
RepliesDependOnOwnDraft =
    (language : Language) (session : ℕ) (state other : State) (line : List ℕ) → IsTrue (is_line_of language session line) → IsSameTo session state other
    → ((reply_of language state line).text ≡ (reply_of language other line).text)
    × IsSameTo session (reply_of language state line).after (reply_of language other line).after

-- a state with other watches
abbrev pub with_watches : List (List Ground) → State → State
with_watches watches state = record state { watches = watches }

-- the notes of a reply's events
abbrev pub reply_notes : Language → State → Reply → List ℕ
reply_notes language before reply = notes_text language.theory language.canon before.watches before.events reply.after.events

-- Two replies have one text, each with its own notes behind it, and leave states that differ in their watches alone.
pub record DifferInNotes (language : Language) (session : ℕ) (state : State) (watches : List (List Ground)) (reply other : Reply) : Type 0 where
  pub common : List ℕ
  pub text : reply.text ≡ common ++ reply_notes language state reply
  pub other_text : other.text ≡ common ++ reply_notes language (with_watches watches state) other
  pub later : List (List Ground)
  pub after : other.after ≡ with_watches later reply.after
  pub own : watched_by session other.after ≡ watched_by session reply.after

-- Of the watches of other sessions a reply to a line of a session shows the notes alone.
abbrev pub WatchesShowInNotesAlone : Type 0
WatchesShowInNotesAlone =
    (language : Language) (session : ℕ) (state : State) (watches : List (List Ground)) (line : List ℕ) → IsTrue (is_line_of language session line)
    → slice_index_or watches session [] ≡ watched_by session state → length watches ≡ length state.watches
    → DifferInNotes language session state watches (reply_of language state line) (reply_of language (with_watches watches state) line)

-- A step of a line that is not of a session leaves the session's draft as it was.
abbrev pub OthersKeepADraft : Type 0
OthersKeepADraft =
    (language : Language) (session : ℕ) (state after : State) (line text : List ℕ) → IsFalse (is_line_of language session line)
    → Step language state line text after → draft_of session after ≡ draft_of session state

-- ---- queries

-- the command asks: a query of the present events, how intervals there relate, or what the last accepted update changed
abbrev pub is_query : PlainCommand → Bool
is_query silent = false
is_query bad = false
is_query (assert_event id t term) = false
is_query (retract_event id) = false
is_query begin_draft = false
is_query commit_draft = false
is_query abort_draft = false
is_query (ask query) = true
is_query (ask_past k query) = false
is_query (ask_pairs p r q) = true
is_query (ask_related p t r q) = true
is_query (watch_prop p) = false
is_query (unwatch_prop p) = false
is_query ask_last = true
is_query quit = false

-- the command asks about the past
abbrev pub is_past_query : PlainCommand → Bool
is_past_query silent = false
is_past_query bad = false
is_past_query (assert_event id t term) = false
is_past_query (retract_event id) = false
is_past_query begin_draft = false
is_past_query commit_draft = false
is_past_query abort_draft = false
is_past_query (ask query) = false
is_past_query (ask_past k query) = true
is_past_query (ask_pairs p r q) = false
is_past_query (ask_related p t r q) = false
is_past_query (watch_prop p) = false
is_past_query (unwatch_prop p) = false
is_past_query ask_last = false
is_past_query quit = false

-- A reply to a query depends on the events and the counts alone, whatever drafts are open.
abbrev pub QueriesIgnoreDrafts : Type 0
QueriesIgnoreDrafts =
    (language : Language) (state other : State) (line : List ℕ) → IsTrue (is_query (line_command language line))
    → state.events ≡ other.events → state.last ≡ other.last → (reply_of language state line).text ≡ (reply_of language other line).text

-- A reply to a question about the past depends on the events and the past alone.
abbrev pub PastQueriesIgnoreDrafts : Type 0
PastQueriesIgnoreDrafts =
    (language : Language) (state other : State) (line : List ℕ) → IsTrue (is_past_query (line_command language line))
    → state.events ≡ other.events → state.past ≡ other.past → (reply_of language state line).text ≡ (reply_of language other line).text

-- A step of a query, of the present or of the past, leaves the state as it was.
abbrev pub QueriesChangeNothing : Type 0
QueriesChangeNothing =
    (language : Language) (state after : State) (line text : List ℕ) → IsTrue (is_query (line_command language line) || is_past_query (line_command language line))
    → Step language state line text after → after ≡ state

-- ---- what is accepted, and what is refused

-- the command may change the events: it is an assert, a retract or a commit
abbrev pub may_change : PlainCommand → Bool
may_change silent = false
may_change bad = false
may_change (assert_event id t term) = true
may_change (retract_event id) = true
may_change begin_draft = false
may_change commit_draft = true
may_change abort_draft = false
may_change (ask query) = false
may_change (ask_past k query) = false
may_change (ask_pairs p r q) = false
may_change (ask_related p t r q) = false
may_change (watch_prop p) = false
may_change (unwatch_prop p) = false
may_change ask_last = false
may_change quit = false

-- the text begins with the line `ok`
abbrev pub BeginsWithOk : Option ℕ → List ℕ → Type 0
BeginsWithOk prefix text = (notes : List ℕ) × (text ≡ reply_line prefix (answer_text answer_ok) ++ notes)

-- the text begins with `refused`, behind its prefix
abbrev pub IsRefusal : Option ℕ → List ℕ → Type 0
IsRefusal prefix text = (cause : List ℕ) × (text ≡ front_text prefix ++ codes "refused " ++ cause)

-- the text is that of the intervals of a property that is to be watched
abbrev pub IsWatchAnswer : Language → State → Option ℕ → PlainCommand → List ℕ → Type 0
IsWatchAnswer language state prefix command text =
    (p : Ground) × (command ≡ watch_prop p) × (text ≡ reply_line prefix (intervals_reply language.theory state.events language.canon p))

-- the text accepts the line: it begins with `ok`, or is `drafted` with a number, or has the intervals of what is to be watched
abbrev pub IsAccepting : Language → State → Option ℕ → PlainCommand → List ℕ → Type 0
IsAccepting language state prefix command text =
    BeginsWithOk prefix text ⊎ (((held : ℕ) × (text ≡ reply_line prefix (answer_text (answer_drafted held)))) ⊎ IsWatchAnswer language state prefix command text)

-- A step changes the state only where the line is accepted.
abbrev pub OnlyAcceptedLinesChange : Type 0
OnlyAcceptedLinesChange =
    (language : Language) (state after : State) (line text : List ℕ) → Step language state line text after
    → (after ≡ state) ⊎ IsAccepting language state (line_prefix language line) (line_command language line) text

-- A refusal leaves all as it was.
abbrev pub RefusedLinesChangeNothing : Type 0
RefusedLinesChangeNothing =
    (language : Language) (state after : State) (line text : List ℕ) → Step language state line text after
    → IsRefusal (line_prefix language line) text → after ≡ state

-- all updates of a session's draft were made, in order, and the draft is closed
pub record IsCommitted (theory : Theory) (session : ℕ) (state after : State) : Type 0 where
  pub held : List PlainUpdate
  pub was_open : draft_of session state ≡ Some held
  pub events : updated_by theory state.events held ≡ Ok after.events
  pub last : after.last ≡ change_counts theory state.events after.events
  pub drafts : after.drafts ≡ slice_set state.drafts session None
  pub is_closed : draft_of session after ≡ None
  pub past : after.past ≡ with_accepted (record { before = state.events; weight = commit_weight held }) state.past
  pub watches : after.watches ≡ state.watches

-- A commit makes all updates of its draft, or none: where one is refused, or memory runs out, the state is as it was.
abbrev pub CommitsAreWhole : Type 0
CommitsAreWhole =
    (language : Language) (state after : State) (line text : List ℕ) → IsFalse (is_long line) → line_command language line ≡ commit_draft
    → Step language state line text after
    → IsCommitted language.theory (session_of (parsed_of language.spelt line)) state after ⊎ (after ≡ state)

-- ---- updates, begins and aborts

-- the draft is open
abbrev pub IsOpen : ℕ → State → Type 0
IsOpen session state = (held : List PlainUpdate) × (draft_of session state ≡ Some held)

-- the single update that a command asks for
abbrev pub asked_update : PlainCommand → Option PlainUpdate
asked_update silent = None
asked_update bad = None
asked_update (assert_event id t term) = Some (asserting (record { id = id; rank = t; term = term }))
asked_update (retract_event id) = Some (retracting id)
asked_update begin_draft = None
asked_update commit_draft = None
asked_update abort_draft = None
asked_update (ask query) = None
asked_update (ask_past k query) = None
asked_update (ask_pairs p r q) = None
asked_update (ask_related p t r q) = None
asked_update (watch_prop p) = None
asked_update (unwatch_prop p) = None
asked_update ask_last = None
asked_update quit = None

-- the draft is closed and the update was made
pub record IsUpdated (theory : Theory) (session : ℕ) (update : PlainUpdate) (state after : State) : Type 0 where
  pub was_closed : draft_of session state ≡ None
  pub events : updated theory state.events update ≡ Ok after.events
  pub last : after.last ≡ change_counts theory state.events after.events
  pub drafts : after.drafts ≡ state.drafts
  pub past : after.past ≡ with_accepted (record { before = state.events; weight = 1 }) state.past
  pub watches : after.watches ≡ state.watches

-- the draft is open with room, and the update is held behind those that it held
pub record IsDrafted (session : ℕ) (update : PlainUpdate) (state after : State) : Type 0 where
  pub held : List PlainUpdate
  pub was_open : draft_of session state ≡ Some held
  pub has_room : length held < MOST_DRAFTED
  pub is_held : after ≡ with_draft session (Some (held ++ update ∷ [])) state

-- An update is made, or held, or leaves the state as it was.
abbrev pub UpdatesAreMadeOrHeld : Type 0
UpdatesAreMadeOrHeld =
    (language : Language) (state after : State) (line text : List ℕ) (update : PlainUpdate) → IsFalse (is_long line)
    → asked_update (line_command language line) ≡ Some update → Step language state line text after
    → let session = session_of (parsed_of language.spelt line) in
    IsUpdated language.theory session update state after ⊎ (IsDrafted session update state after ⊎ (after ≡ state))

-- A begin opens the draft, empty, where it is closed, and leaves the state as it was where it is open.
abbrev pub BeginsOpenADraft : Type 0
BeginsOpenADraft =
    (language : Language) (state after : State) (line text : List ℕ) → IsFalse (is_long line) → line_command language line ≡ begin_draft
    → Step language state line text after
    → let session = session_of (parsed_of language.spelt line) in
    ((draft_of session state ≡ None) × (after ≡ with_draft session (Some []) state)) ⊎ (IsOpen session state × (after ≡ state))

-- An abort closes the draft where it is open, and leaves the state as it was where it is closed.
abbrev pub AbortsCloseADraft : Type 0
AbortsCloseADraft =
    (language : Language) (state after : State) (line text : List ℕ) → IsFalse (is_long line) → line_command language line ≡ abort_draft
    → Step language state line text after
    → let session = session_of (parsed_of language.spelt line) in
    (IsOpen session state × (after ≡ with_draft session None state)) ⊎ ((draft_of session state ≡ None) × (after ≡ state))

-- ---- watches

-- the property is watched from then on
pub record IsWatching (session : ℕ) (p : Ground) (state after : State) : Type 0 where
  pub was_not : IsFalse (is_watched p (watched_by session state))
  pub has_room : length (watched_by session state) < MOST_WATCHED
  pub is_watching : after ≡ with_watched session (with_property p (watched_by session state)) state

-- A watch lets a property be watched, or leaves the state as it was where the session watches it already, or as much as it may.
abbrev pub WatchesAreKept : Type 0
WatchesAreKept =
    (language : Language) (state after : State) (line text : List ℕ) (p : Ground) → IsFalse (is_long line) → line_command language line ≡ watch_prop p
    → Step language state line text after
    → let session = session_of (parsed_of language.spelt line) in
    IsWatching session p state after
    ⊎ ((IsTrue (is_watched p (watched_by session state)) ⊎ (MOST_WATCHED ≤ length (watched_by session state))) × (after ≡ state))

-- An unwatch ends the watch of a property, or leaves the state as it was where the session does not watch it.
abbrev pub UnwatchesEndAWatch : Type 0
UnwatchesEndAWatch =
    (language : Language) (state after : State) (line text : List ℕ) (p : Ground) → IsFalse (is_long line) → line_command language line ≡ unwatch_prop p
    → Step language state line text after
    → let session = session_of (parsed_of language.spelt line) in
    (IsTrue (is_watched p (watched_by session state)) × (after ≡ with_watched session (without_property p (watched_by session state)) state))
    ⊎ (IsFalse (is_watched p (watched_by session state)) × (after ≡ state))

-- ---- memory

-- A line for which memory can not run out is answered by its reply, and by nothing else.
abbrev pub WithoutMemoryAStepIsTheReply : Type 0
WithoutMemoryAStepIsTheReply =
    (language : Language) (state after : State) (line text : List ℕ) → IsFalse (may_want_memory language state line)
    → Step language state line text after → IsReply language state line text after
