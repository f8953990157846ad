-- The laws of runs, as statements. Each is the contract of a function of the module of laws.
use Rattle.std.specs.Prelude.{◌≡◌, ◌≤◌, ◌↔◌, ℕ, Some, None, length, Bool, true, false, not, ◌||◌, List, [], ◌∷◌, ◌++◌, map, filter, flat_map, IsTrue, IsFalse}
use Rattle.std.specs.List.{All, list_all}
use Rattle.ec_terms.specs.declared.ground.Ground.{Ground}
use Rattle.ec_terms.specs.declared.theory.Theory.{Theory}
use Rattle.ec_commands.specs.declared.limits.TheConstants.{MOST_DRAFTED, MOST_PAST, MOST_WATCHED, SESSIONS}
use Rattle.ec_axioms.specs.Calculus.{PlainEvent}
use Rattle.ec_axioms.specs.Changes.{is_history}
use Rattle.ec_axioms.specs.Links.{in_term_order, mentions_of, link_count, most_events, most_mentions, most_links}
use Rattle.ec_commands.specs.Lines.{is_long}
use Rattle.ec_commands.specs.Commands.{PlainCommand, silent, bad, assert_event, retract_event, begin_draft, commit_draft, abort_draft, ask, ask_past, ask_pairs, ask_related, watch_prop, unwatch_prop, ask_last, quit}
use Rattle.ec_replies.specs.Past.{Accepted, total_weight}
use Rattle.ec_replies.specs.State.{Draft, State, draft_of, watched_by, empty_state}
use Rattle.ec_replies.specs.Replies.{Language}
use Rattle.ec_replies.specs.Runs.{Step, is_quit, has_quit, Run, RunsOn}
use Rattle.ec_replies.specs.Laws.{BeginsWithOk, is_line_of, is_past_query, may_change, line_command, line_prefix}

-- ---- runs over more lines

-- A run over lines and more lines is a run over the lines, and from where it ends, unless one of them quits, a run over more.
abbrev pub RunsGoOn : Type 0
RunsGoOn =
    (language : Language) (state after : State) (lines more : List (List ℕ)) (out : List ℕ)
    → Run language state (lines ++ more) out after
    ↔ ((first : List ℕ) × (middle : State) × Run language state lines first middle
    × RunsOn (has_quit language lines) first middle out after (λ rest. Run language middle more rest after))

-- ---- limits

-- how many updates a draft holds
abbrev pub held_count : Draft → ℕ
held_count None = 0
held_count (Some held) = length held

-- the list is a history, with no more events, mentions and links than there may be
pub record IsListWithinLimits (theory : Theory) (events : List PlainEvent) : Type 0 where
  pub history : IsTrue (is_history events)
  pub few_events : length events ≤ most_events
  pub few_mentions : length (mentions_of theory events) ≤ most_mentions
  pub few_links : link_count theory events ≤ most_links

-- what a session watches stands in term order, and is no more than it may be
pub record AreWatched (watched : List Ground) : Type 0 where
  pub ordered : in_term_order watched ≡ watched
  pub few : length watched ≤ MOST_WATCHED

-- There is a draft for each session, with no more updates than it may hold; each list of the past is within the limits, and what is
-- kept of it has room; and each session watches no more than it may.
pub record IsStateWithinLimits (theory : Theory) (state : State) : Type 0 where
  pub list : IsListWithinLimits theory state.events
  pub sessions : length state.drafts ≡ SESSIONS
  pub drafts : (session : ℕ) → held_count (draft_of session state) ≤ MOST_DRAFTED
  pub past : All (λ (update : Accepted). IsListWithinLimits theory update.before) state.past.kept
  pub room : total_weight state.past.kept ≤ MOST_PAST
  pub kept : length state.past.kept ≤ state.past.count
  pub watching : length state.watches ≡ SESSIONS
  pub watches : (session : ℕ) → AreWatched (watched_by session state)

-- The state after any lines is within the limits.
abbrev pub RunsStayWithinLimits : Type 0
RunsStayWithinLimits =
    (language : Language) (lines : List (List ℕ)) (out : List ℕ) (after : State) → Run language empty_state lines out after
    → IsStateWithinLimits language.theory after

-- ---- memory

-- memory can not run out for the line: it is long, or no assert, retract or commit, and no question about the past
unfoldable pub is_without_memory : Language → List ℕ → Bool
is_without_memory language line = is_long line || not (may_change (line_command language line) || is_past_query (line_command language line))

-- Over lines for which memory can not run out there is one run: one possible output, and one state after it.
abbrev pub WithoutMemoryARunIsOne : Type 0
WithoutMemoryARunIsOne =
    (language : Language) (state after next : State) (lines : List (List ℕ)) (out other : List ℕ) → IsTrue (list_all (is_without_memory language) lines)
    → Run language state lines out after → Run language state lines other next → (out ≡ other) × (after ≡ next)

-- What is written tells what was done: two runs over the same lines with the same output leave the same state.
abbrev pub OutputTellsTheState : Type 0
OutputTellsTheState =
    (language : Language) (state after next : State) (lines : List (List ℕ)) (out : List ℕ)
    → Run language state lines out after → Run language state lines out next → after ≡ next

-- ---- answered lines

-- a line and what is written for it
pub record Answered : Type 0 where
  pub line : List ℕ
  pub text : List ℕ

-- the lines of answered lines, and their texts joined
abbrev pub lines_in : List Answered → List (List ℕ)
lines_in answered = map (λ (one : Answered). one.line) answered

abbrev pub texts_in : List Answered → List ℕ
texts_in answered = flat_map (λ (one : Answered). one.text) answered

-- nothing was written for the line
abbrev pub is_unanswered : Answered → Bool
is_unanswered one = is_none one.text
  where
    is_none : List ℕ → Bool
    is_none [] = true
    is_none (b ∷ text) = false

-- how answered lines go on behind a line: behind a `quit` nothing is written, else the rest is answered
abbrev pub GoesOn : Bool → List Answered → State → State → Type 0 → Type 0
GoesOn true rest next after rest_answered = IsTrue (list_all is_unanswered rest) × (after ≡ next)
GoesOn false rest next after rest_answered = rest_answered

-- A run line by line: each line in turn makes a step with its own text, up to and with the first `quit`, or to the last.
abbrev pub RunOf : Language → State → List Answered → State → Type 0
RunOf language state [] after = after ≡ state
RunOf language state (one ∷ rest) after =
    (next : State) × Step language state one.line one.text next × GoesOn (is_quit language one.line) rest next after (RunOf language next rest after)

-- A run is one line by line, whose texts joined are its output.
abbrev pub RunsAreOfLines : Type 0
RunsAreOfLines =
    (language : Language) (state after : State) (lines : List (List ℕ)) (out : List ℕ)
    → Run language state lines out after
    ↔ ((answered : List Answered) × (lines_in answered ≡ lines) × (texts_in answered ≡ out) × RunOf language state answered after)

-- ---- a run without the lines of a session

-- the command begins a watch, and it ends one
abbrev pub is_watch : PlainCommand → Bool
is_watch silent = false
is_watch bad = false
is_watch (assert_event id t term) = false
is_watch (retract_event id) = false
is_watch begin_draft = false
is_watch commit_draft = false
is_watch abort_draft = false
is_watch (ask query) = false
is_watch (ask_past k query) = false
is_watch (ask_pairs p r q) = false
is_watch (ask_related p t r q) = false
is_watch (watch_prop p) = true
is_watch (unwatch_prop p) = false
is_watch ask_last = false
is_watch quit = false

abbrev pub is_unwatch : PlainCommand → Bool
is_unwatch silent = false
is_unwatch bad = false
is_unwatch (assert_event id t term) = false
is_unwatch (retract_event id) = false
is_unwatch begin_draft = false
is_unwatch commit_draft = false
is_unwatch abort_draft = false
is_unwatch (ask query) = false
is_unwatch (ask_past k query) = false
is_unwatch (ask_pairs p r q) = false
is_unwatch (ask_related p t r q) = false
is_unwatch (watch_prop p) = false
is_unwatch (unwatch_prop p) = true
is_unwatch ask_last = false
is_unwatch quit = false

-- the command may change the events or ends a watch
abbrev pub may_show : PlainCommand → Bool
may_show command = may_change command || is_unwatch command

-- a line of the session is no `quit` and no `watch`, and no assert, retract, commit or unwatch whose text begins with `ok`
pub record IsWithoutEffect (language : Language) (session : ℕ) (one : Answered) : Type 0 where
  pub no_quit : IsTrue (is_line_of language session one.line) → IsFalse (is_quit language one.line)
  pub no_watch : IsTrue (is_line_of language session one.line) → IsFalse (is_watch (line_command language one.line))
  pub no_ok : IsTrue (is_line_of language session one.line) → IsTrue (may_show (line_command language one.line))
      → BeginsWithOk (line_prefix language one.line) one.text → ⊥

-- the answered lines that are not of the session
abbrev pub without_session : Language → ℕ → List Answered → List Answered
without_session language session answered = filter (λ (one : Answered). not (is_line_of language session one.line)) answered

-- Where no line of a session quits or watches, and no assert, retract, commit or unwatch of it is answered by `ok`, the lines of the
-- others are answered alike without it: they have a run whose text is the replies that they had.
abbrev pub SessionsWithoutEffectAreUnseen : Type 0
SessionsWithoutEffectAreUnseen =
    (language : Language) (session : ℕ) (state after : State) (answered : List Answered) → All (IsWithoutEffect language session) answered
    → RunOf language state answered after
    → (other : State) × Run language state (lines_in (without_session language session answered)) (texts_in (without_session language session answered)) other

-- a line of the session is no `quit` and no `watch`, and no assert, retract or commit whose text begins with `ok`
pub record IsWithoutUpdate (language : Language) (session : ℕ) (one : Answered) : Type 0 where
  pub no_quit : IsTrue (is_line_of language session one.line) → IsFalse (is_quit language one.line)
  pub no_watch : IsTrue (is_line_of language session one.line) → IsFalse (is_watch (line_command language one.line))
  pub no_ok : IsTrue (is_line_of language session one.line) → IsTrue (may_change (line_command language one.line))
      → BeginsWithOk (line_prefix language one.line) one.text → ⊥

-- From the first line on a session that watches nothing has no watch to end, so its lines are unseen where it makes no update.
abbrev pub SessionsWithoutUpdatesAreUnseen : Type 0
SessionsWithoutUpdatesAreUnseen =
    (language : Language) (session : ℕ) (after : State) (answered : List Answered) → All (IsWithoutUpdate language session) answered
    → RunOf language empty_state answered after
    → (other : State) × Run language empty_state (lines_in (without_session language session answered)) (texts_in (without_session language session answered)) other
