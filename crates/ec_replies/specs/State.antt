-- What the lines so far have left: the present events, what the last accepted update changed, the draft of each session, the past,
-- and what each session watches.
use Rattle.std.specs.Prelude.{ℕ, List, [], Option, None, replicate, slice_set}
use Rattle.std.specs.List.{slice_index_or}
use Rattle.ec_terms.specs.declared.ground.Ground.{Ground}
use Rattle.ec_axioms.specs.declared.event.Seen.{Seen}
use Rattle.ec_commands.specs.declared.limits.TheConstants.{SESSIONS}
use Rattle.ec_axioms.specs.Calculus.{PlainEvent}
use Rattle.ec_axioms.specs.Changes.{PlainUpdate}
use Rattle.ec_replies.specs.Past.{Past, empty_past}

-- a draft: closed, or open with the updates that it holds, in order
abbrev pub Draft : Type 0
Draft = Option (List PlainUpdate)

pub record State : Type 0 where
  pub events : List PlainEvent
  pub last : Seen
  pub drafts : List Draft
  pub past : Past
  pub watches : List (List Ground)

-- nothing changed
abbrev pub no_change : Seen
no_change = record { seen = 0; on = 0; off = 0; props = 0 }

-- the state before the first line: no event, no change, each draft closed, no past, and no watch
unfoldable pub empty_state : State
empty_state = record { events = []; last = no_change; drafts = replicate SESSIONS None; past = empty_past; watches = replicate SESSIONS [] }

-- the draft of a session
abbrev pub draft_of : ℕ → State → Draft
draft_of session state = slice_index_or state.drafts session None

-- the state with another draft of a session
abbrev pub with_draft : ℕ → Draft → State → State
with_draft session draft state = record state { drafts = slice_set state.drafts session draft }

-- what a session watches, in term order
abbrev pub watched_by : ℕ → State → List Ground
watched_by session state = slice_index_or state.watches session []

-- the state with other watches of a session
abbrev pub with_watched : ℕ → List Ground → State → State
with_watched session watched state = record state { watches = slice_set state.watches session watched }
