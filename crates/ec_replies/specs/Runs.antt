-- The step that a line makes, for which memory may be wanting, and the run that lines make.
use Rattle.std.specs.Prelude.{◌≡◌, ◌⊎◌, ℕ, Bool, true, false, not, ◌&&◌, ◌||◌, ◌==◌, nat_lt, nat_le, List, [], ◌∷◌, ◌++◌, Some, None, Result, Ok, Err, length, IsTrue}
use Rattle.std.specs.List.{list_any}
use Rattle.ec_terms.specs.declared.theory.Theory.{Theory}
use Rattle.ec_axioms.specs.declared.event.Cut.{Cut}
use Rattle.ec_axioms.specs.declared.event.Cut.TheVariants.{Duplicate, Unknown, FullEvents, FullMentions, FullLinks}
use Rattle.ec_commands.specs.declared.limits.TheConstants.{MOST_DRAFTED}
use Rattle.ec_axioms.specs.Calculus.{PlainEvent}
use Rattle.ec_axioms.specs.Changes.{PlainUpdate, asserting, retracting}
use Rattle.ec_commands.specs.Lines.{is_long}
use Rattle.ec_commands.specs.Commands.{PlainQuery, PlainCommand, silent, bad, assert_event, retract_event, begin_draft, commit_draft, abort_draft, ask, ask_past, ask_pairs, ask_related, watch_prop, unwatch_prop, ask_last, quit, PlainParsed, parsed_of}
use Rattle.ec_commands.specs.Answers.{refused_memory, answer_text}
use Rattle.ec_replies.specs.Past.{first_kept}
use Rattle.ec_replies.specs.State.{Draft, State, draft_of, empty_state}
use Rattle.ec_replies.specs.Updates.{updated}
use Rattle.ec_replies.specs.Replies.{Language, is_backwards, reply_line, reply_of, session_of}

-- ---- want of memory

-- a refusal of one update in whose place want of memory never stands
abbrev pub is_always_told : Cut → Bool
is_always_told (Duplicate id) = true
is_always_told (Unknown id) = true
is_always_told FullEvents = true
is_always_told FullMentions = false
is_always_told FullLinks = false

-- memory may be wanting for an update that is accepted, or refused for a cause that takes memory to find
abbrev pub may_want_by : Result (List PlainEvent) Cut → Bool
may_want_by (Ok events) = true
may_want_by (Err cut) = not (is_always_told cut)

-- memory may be wanting for an update: while the draft is open, unless it is full
unfoldable pub update_may_want_memory : Theory → ℕ → State → PlainUpdate → Bool
update_may_want_memory theory session state update = by_draft (draft_of session state)
  where
    by_draft : Draft → Bool
    by_draft None = may_want_by (updated theory state.events update)
    by_draft (Some held) = nat_lt (length held) MOST_DRAFTED

-- Memory may be wanting for updates that are applied together if it may for the first of them. What is accepted takes memory to
-- be tried, so behind a first update that is accepted it may be wanting, whatever the others would be refused for.
unfoldable pub batch_may_want_memory : Theory → List PlainEvent → List PlainUpdate → Bool
batch_may_want_memory theory events [] = false
batch_may_want_memory theory events (update ∷ updates) = may_want_by (updated theory events update)

-- memory may be wanting for a commit, if the draft is open and it may for the updates that it holds, or if it holds none, since that
-- is counted as an accepted update
unfoldable pub commit_may_want_memory : Theory → ℕ → State → Bool
commit_may_want_memory theory session state = by_draft (draft_of session state)
  where
    by_draft : Draft → Bool
    by_draft None = false
    by_draft (Some held) = length held == 0 || batch_may_want_memory theory state.events held

-- memory may be wanting for a question about the past, unless it is refused
abbrev pub past_may_want_memory : State → ℕ → PlainQuery → Bool
past_may_want_memory state k query = not (is_backwards query) && nat_le k state.past.count && nat_le (first_kept state.past) k

-- memory may be wanting for a command
unfoldable pub command_may_want_memory : Theory → ℕ → State → PlainCommand → Bool
command_may_want_memory theory session state silent = false
command_may_want_memory theory session state bad = false
command_may_want_memory theory session state (assert_event id t term) = update_may_want_memory theory session state (asserting (record { id = id; rank = t; term = term }))
command_may_want_memory theory session state (retract_event id) = update_may_want_memory theory session state (retracting id)
command_may_want_memory theory session state begin_draft = false
command_may_want_memory theory session state commit_draft = commit_may_want_memory theory session state
command_may_want_memory theory session state abort_draft = false
command_may_want_memory theory session state (ask query) = false
command_may_want_memory theory session state (ask_past k query) = past_may_want_memory state k query
command_may_want_memory theory session state (ask_pairs p r q) = false
command_may_want_memory theory session state (ask_related p t r q) = false
command_may_want_memory theory session state (watch_prop p) = false
command_may_want_memory theory session state (unwatch_prop p) = false
command_may_want_memory theory session state ask_last = false
command_may_want_memory theory session state quit = false

-- memory may be wanting for what a line says
abbrev pub parsed_may_want_memory : Theory → State → PlainParsed → Bool
parsed_may_want_memory theory state parsed = command_may_want_memory theory (session_of parsed) state parsed.command

-- memory may be wanting for a line
unfoldable pub may_want_memory : Language → State → List ℕ → Bool
may_want_memory language state line = not (is_long line) && parsed_may_want_memory language.theory state (parsed_of language.spelt line)

-- the reply of a line for which memory was wanting
abbrev pub memory_text : Language → List ℕ → List ℕ
memory_text language line = reply_line (parsed_of language.spelt line).session (answer_text refused_memory)

-- ---- steps and runs

-- a line is answered by its reply, and leaves the state that the reply leaves
pub record IsReply (language : Language) (state : State) (line text : List ℕ) (after : State) : Type 0 where
  pub text_is : text ≡ (reply_of language state line).text
  pub after_is : after ≡ (reply_of language state line).after

-- a line is refused for want of memory, and leaves the state as it was
pub record IsMemoryRefusal (language : Language) (state : State) (line text : List ℕ) (after : State) : Type 0 where
  pub may : IsTrue (may_want_memory language state line)
  pub text_is : text ≡ memory_text language line
  pub after_is : after ≡ state

-- A step: a line is answered by its reply, or it is an update or a question about the past that is refused for want of memory.
abbrev pub Step : Language → State → List ℕ → List ℕ → State → Type 0
Step language state line text after = IsReply language state line text after ⊎ IsMemoryRefusal language state line text after

-- the command of a parsed line is `quit`
abbrev pub command_quits : PlainCommand → Bool
command_quits silent = false
command_quits bad = false
command_quits (assert_event id t term) = false
command_quits (retract_event id) = false
command_quits begin_draft = false
command_quits commit_draft = false
command_quits abort_draft = false
command_quits (ask query) = false
command_quits (ask_past k query) = false
command_quits (ask_pairs p r q) = false
command_quits (ask_related p t r q) = false
command_quits (watch_prop p) = false
command_quits (unwatch_prop p) = false
command_quits ask_last = false
command_quits quit = true

-- the line is `quit`
unfoldable pub is_quit : Language → List ℕ → Bool
is_quit language line = not (is_long line) && command_quits (parsed_of language.spelt line).command

-- `quit` is among the lines
abbrev pub has_quit : Language → List (List ℕ) → Bool
has_quit language lines = list_any (is_quit language) lines

-- how a run goes on behind a line: behind a `quit` nothing is answered, else the rest runs
abbrev pub RunsOn : Bool → List ℕ → State → List ℕ → State → (List ℕ → Type 0) → Type 0
RunsOn true text next out after rest_runs = (out ≡ text) × (after ≡ next)
RunsOn false text next out after rest_runs = (rest : List ℕ) × (out ≡ text ++ rest) × rest_runs rest

-- A run from a state: the lines are taken in order, up to and with the first `quit` or to the last; each makes a
-- step; `out` is the replies joined, `after` the last state.
abbrev pub Run : Language → State → List (List ℕ) → List ℕ → State → Type 0
Run language state [] out after = (out ≡ []) × (after ≡ state)
Run language state (line ∷ lines) out after =
    (text : List ℕ) × (next : State) × Step language state line text next × RunsOn (is_quit language line) text next out after
    (λ rest. Run language next lines rest after)

-- the bytes are the replies of a run over the lines, from no event on
abbrev pub IsRun : Language → List (List ℕ) → List ℕ → Type 0
IsRun language lines out = (after : State) × Run language empty_state lines out after
