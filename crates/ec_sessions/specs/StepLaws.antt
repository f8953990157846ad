-- The laws of the steps that lines may take, as statements. Each is the contract of a function of the module of laws.
use Rattle.std.specs.Prelude.{◌≡◌, ◌+◌, ℕ, ℤ, Bool, true, false, ◌||◌, List, length, Option, Some, IsTrue, IsFalse}
use Rattle.ec_terms.specs.declared.ground.Ground.{Ground}
use Rattle.ec_axioms.specs.Changes.{PlainUpdate}
use Rattle.ec_commands.specs.Commands.{PlainQuery, ask_events, ask_why}
use Rattle.ec_commands.specs.Commands.{PlainCommand, silent, bad, assert_event, retract_event, begin_draft, commit_draft, abort_draft, ask, ask_past, ask_pairs, ask_related, watch_prop, unwatch_prop, ask_last, quit, parsed_of}
use Rattle.ec_commands.specs.Lines.{is_long}
use Rattle.ec_engine.specs.Revise.{most_steps}
use Rattle.ec_past.specs.Viewing.{way_steps}
use Rattle.ec_query.specs.ReasonSteps.{why_steps}
use Rattle.ec_replies.specs.Past.{list_after}
use Rattle.ec_replies.specs.State.{State, draft_of}
use Rattle.ec_replies.specs.Replies.{Language, session_of}
use Rattle.ec_replies.specs.Runs.{past_may_want_memory}
use Rattle.ec_replies.specs.Laws.{IsOpen, asked_update, line_command}
use Rattle.ec_sessions.specs.LineSteps.{Reading, reads_none, reads_each, reads_reason, reading_of, most_line_steps, most_query_steps}

-- the reply to a query reads no event
abbrev pub is_none : Reading → Bool
is_none reads_none = true
is_none reads_each = false
is_none (reads_reason p t) = false

-- the command changes no event, lists none, names none as a cause, and asks for no list of the past
abbrev pub reads_no_event : PlainCommand → Bool
reads_no_event silent = true
reads_no_event bad = true
reads_no_event (assert_event id t term) = false
reads_no_event (retract_event id) = false
reads_no_event begin_draft = true
reads_no_event commit_draft = false
reads_no_event abort_draft = true
reads_no_event (ask query) = is_none (reading_of query)
reads_no_event (ask_past k query) = false
reads_no_event (ask_pairs p r q) = true
reads_no_event (ask_related p t r q) = true
reads_no_event (watch_prop p) = true
reads_no_event (unwatch_prop p) = true
reads_no_event ask_last = true
reads_no_event quit = true

-- Such a line takes no step, and neither does a long one: its answer is read off the caches.
abbrev pub OtherLinesTakeNoStep : Type 0
OtherLinesTakeNoStep =
    (language : Language) (viewed : Option ℕ) (state : State) (line : List ℕ) → IsTrue (is_long line || reads_no_event (line_command language line))
    → most_line_steps language viewed state line ≡ 0

-- To list the events takes one step for each of them.
abbrev pub EventsTakeAStepEach : Type 0
EventsTakeAStepEach =
    (language : Language) (viewed : Option ℕ) (state : State) (line : List ℕ) → IsFalse (is_long line) → line_command language line ≡ ask ask_events
    → most_line_steps language viewed state line ≡ length state.events

-- To tell a reason takes two steps for each event at its instants.
abbrev pub ReasonsTakeTheirSteps : Type 0
ReasonsTakeTheirSteps =
    (language : Language) (viewed : Option ℕ) (state : State) (line : List ℕ) (p : Ground) (t : ℤ) → IsFalse (is_long line)
    → line_command language line ≡ ask (ask_why p t)
    → most_line_steps language viewed state line ≡ why_steps language.theory state.events p t

-- An update that is held in a draft, or refused by one that is full, takes no step.
abbrev pub HeldUpdatesTakeNoStep : Type 0
HeldUpdatesTakeNoStep =
    (language : Language) (viewed : Option ℕ) (state : State) (line : List ℕ) (update : PlainUpdate) → IsFalse (is_long line)
    → asked_update (line_command language line) ≡ Some update → IsOpen (session_of (parsed_of language.spelt line)) state → most_line_steps language viewed state line ≡ 0

-- A commit takes the steps of its draft as one batch, and one for the record of each update.
abbrev pub CommitsTakeTheirBatch : Type 0
CommitsTakeTheirBatch =
    (language : Language) (viewed : Option ℕ) (state : State) (line : List ℕ) (held : List PlainUpdate) → IsFalse (is_long line)
    → line_command language line ≡ commit_draft → draft_of (session_of (parsed_of language.spelt line)) state ≡ Some held
    → most_line_steps language viewed state line ≡ most_steps language.theory state.events held + length held

-- A question about the past takes the way from the list that is viewed to the one that it asks about, and the steps of its query at that
-- list; of these alone where it asks about the list that is viewed; and none where it is refused.
pub record PastQuestionsTakeTheirWay : Type 0 where
  pub asked : (language : Language) (viewed : Option ℕ) (state : State) (line : List ℕ) (k : ℕ) (query : PlainQuery) → IsFalse (is_long line)
      → line_command language line ≡ ask_past k query → IsTrue (past_may_want_memory state k query)
      → most_line_steps language viewed state line
      ≡ way_steps language.theory state.events state.past viewed k + most_query_steps language.theory (list_after k state.events state.past) query
  pub again : (language : Language) (state : State) (line : List ℕ) (k : ℕ) (query : PlainQuery) → IsFalse (is_long line)
      → line_command language line ≡ ask_past k query → IsTrue (past_may_want_memory state k query)
      → most_line_steps language (Some k) state line ≡ most_query_steps language.theory (list_after k state.events state.past) query
  pub refused : (language : Language) (viewed : Option ℕ) (state : State) (line : List ℕ) (k : ℕ) (query : PlainQuery) → IsFalse (is_long line)
      → line_command language line ≡ ask_past k query → IsFalse (past_may_want_memory state k query) → most_line_steps language viewed state line ≡ 0
