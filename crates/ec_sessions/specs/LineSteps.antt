-- How many steps the answer to a line may take.
use Rattle.std.specs.Prelude.{ℕ, ℤ, ◌+◌, if◌then◌else◌, List, [], ◌∷◌, length, Option, Some, None}
use Rattle.ec_terms.specs.declared.ground.Ground.{Ground}
use Rattle.ec_terms.specs.declared.theory.Theory.{Theory}
use Rattle.ec_axioms.specs.Calculus.{PlainEvent}
use Rattle.ec_axioms.specs.Changes.{PlainUpdate, asserting, retracting}
use Rattle.ec_commands.specs.Commands.{PlainQuery, ask_holds, ask_through, ask_intervals, ask_broken, ask_at, ask_clashes, ask_events, ask_why}
use Rattle.ec_commands.specs.Commands.{PlainCommand, silent, bad, assert_event, retract_event, begin_draft, commit_draft, abort_draft, ask, ask_past, ask_pairs, ask_related, watch_prop, unwatch_prop, ask_last, quit, PlainParsed, parsed_of}
use Rattle.ec_commands.specs.Lines.{is_long}
use Rattle.ec_engine.specs.Revise.{most_steps}
use Rattle.ec_past.specs.Viewing.{way_steps}
use Rattle.ec_query.specs.ReasonSteps.{why_steps}
use Rattle.ec_replies.specs.Past.{list_after}
use Rattle.ec_replies.specs.State.{Draft, State, draft_of}
use Rattle.ec_replies.specs.Replies.{Language, session_of}
use Rattle.ec_replies.specs.Runs.{past_may_want_memory}

-- an update, while the draft is closed: those of a batch of it alone, and one for its record; none while it is open
unfoldable pub most_update_steps : Theory → ℕ → State → PlainUpdate → ℕ
most_update_steps theory session state update = by_draft (draft_of session state)
  where
    by_draft : Draft → ℕ
    by_draft None = most_steps theory state.events (update ∷ []) + 1
    by_draft (Some held) = 0

-- a commit: those of its draft, and one for the record of each update; none where there is no draft
unfoldable pub most_commit_steps : Theory → ℕ → State → ℕ
most_commit_steps theory session state = by_draft (draft_of session state)
  where
    by_draft : Draft → ℕ
    by_draft None = 0
    by_draft (Some held) = most_steps theory state.events held + length held

-- what a question about the past takes: none where it is refused
unfoldable pub unless_refused : State → ℕ → PlainQuery → ℕ → ℕ
unless_refused state k query steps = if past_may_want_memory state k query then steps else 0

-- the change that a command makes, or the way to the list of the past that it asks about, from the one that is viewed
unfoldable pub most_change_steps : Theory → ℕ → Option ℕ → State → PlainCommand → ℕ
most_change_steps theory session viewed state silent = 0
most_change_steps theory session viewed state bad = 0
most_change_steps theory session viewed state (assert_event id t term) = most_update_steps theory session state (asserting (record { id = id; rank = t; term = term }))
most_change_steps theory session viewed state (retract_event id) = most_update_steps theory session state (retracting id)
most_change_steps theory session viewed state begin_draft = 0
most_change_steps theory session viewed state commit_draft = most_commit_steps theory session state
most_change_steps theory session viewed state abort_draft = 0
most_change_steps theory session viewed state (ask query) = 0
most_change_steps theory session viewed state (ask_past k query) = unless_refused state k query (way_steps theory state.events state.past viewed k)
most_change_steps theory session viewed state (ask_pairs p r q) = 0
most_change_steps theory session viewed state (ask_related p t r q) = 0
most_change_steps theory session viewed state (watch_prop p) = 0
most_change_steps theory session viewed state (unwatch_prop p) = 0
most_change_steps theory session viewed state ask_last = 0
most_change_steps theory session viewed state quit = 0

-- what the reply to a query reads of the events: none, since the caches have what is asked; each of them; or those at the
-- instants of a reason
pub data Reading : Type 0 where
  reads_none : Reading
  reads_each : Reading
  reads_reason : Ground → ℤ → Reading

abbrev pub reading_of : PlainQuery → Reading
reading_of (ask_holds p t) = reads_none
reading_of (ask_through p s e) = reads_none
reading_of (ask_intervals p) = reads_none
reading_of (ask_broken p) = reads_none
reading_of (ask_at t) = reads_none
reading_of ask_clashes = reads_none
reading_of ask_events = reads_each
reading_of (ask_why p t) = reads_reason p t

abbrev pub reading_steps : Theory → List PlainEvent → Reading → ℕ
reading_steps theory events reads_none = 0
reading_steps theory events reads_each = length events
reading_steps theory events (reads_reason p t) = why_steps theory events p t

-- a query
unfoldable pub most_query_steps : Theory → List PlainEvent → PlainQuery → ℕ
most_query_steps theory events query = reading_steps theory events (reading_of query)

-- the query that a command asks, of the present list or of one of the past
unfoldable pub most_asked_steps : Theory → State → PlainCommand → ℕ
most_asked_steps theory state silent = 0
most_asked_steps theory state bad = 0
most_asked_steps theory state (assert_event id t term) = 0
most_asked_steps theory state (retract_event id) = 0
most_asked_steps theory state begin_draft = 0
most_asked_steps theory state commit_draft = 0
most_asked_steps theory state abort_draft = 0
most_asked_steps theory state (ask query) = most_query_steps theory state.events query
most_asked_steps theory state (ask_past k query) = unless_refused state k query (most_query_steps theory (list_after k state.events state.past) query)
most_asked_steps theory state (ask_pairs p r q) = 0
most_asked_steps theory state (ask_related p t r q) = 0
most_asked_steps theory state (watch_prop p) = 0
most_asked_steps theory state (unwatch_prop p) = 0
most_asked_steps theory state ask_last = 0
most_asked_steps theory state quit = 0

-- a line that is not long: those of its command
abbrev pub most_parsed_steps : Theory → Option ℕ → State → PlainParsed → ℕ
most_parsed_steps theory viewed state parsed = most_change_steps theory (session_of parsed) viewed state parsed.command + most_asked_steps theory state parsed.command

-- a line, where this list of the past is viewed
unfoldable pub most_line_steps : Language → Option ℕ → State → List ℕ → ℕ
most_line_steps language viewed state line = if is_long line then 0 else most_parsed_steps language.theory viewed state (parsed_of language.spelt line)
