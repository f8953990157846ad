-- What lines are answered from.
use Rattle.std.specs.Prelude.{◌≡◌, ◌⊎◌, ℕ, List, [], Option, Some, replicate}
use Rattle.ec_terms.specs.declared.ground.Ground.{Ground}
use Rattle.ec_terms.specs.declared.theory.Theory.{Theory}
use Rattle.ec_axioms.specs.declared.event.Seen.{Seen}
use Rattle.ec_axioms.specs.Calculus.{PlainEvent}
use Rattle.ec_commands.specs.declared.limits.TheConstants.{SESSIONS}
use Rattle.ec_replies.specs.Past.{Past}
use Rattle.ec_replies.specs.State.{Draft, State}

-- a theory, what the lines so far have left, and the list of the past that is viewed, if there is one: the list after so many accepted
-- updates, from which the way to the next one goes
pub record SessionsState : Type 0 where
  pub theory : Theory
  pub state : State
  pub viewed : Option ℕ

-- the list after so many accepted updates is ready to be asked: it is the present one, or the one that is viewed
abbrev pub IsReadyAt : ℕ → SessionsState → Type 0
IsReadyAt k sessions = (k ≡ sessions.state.past.count) ⊎ (sessions.viewed ≡ Some k)

-- no session watches a property
abbrev pub no_watches : List (List Ground)
no_watches = replicate SESSIONS []

-- the state that is kept as a list of events with its past, the counts of the last change and the drafts, where nothing is watched
abbrev pub kept_state : List PlainEvent → Past → Seen → List Draft → State
kept_state events past last drafts = record { events = events; last = last; drafts = drafts; past = past; watches = no_watches }

-- a state with other events, another past and other counts
abbrev pub revised_state : List PlainEvent → Past → Seen → State → State
revised_state events past last state = record state { events = events; last = last; past = past }
