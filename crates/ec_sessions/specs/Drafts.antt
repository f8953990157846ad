-- The drafts of all sessions, as the program keeps them.
use Rattle.std.specs.Prelude.{◌≡◌, ◌<◌, ◌≤◌, ℕ, ℤ, List, map, length, Option, Some, None, option_map}
use Rattle.std.specs.List.{slice_index_or}
use Rattle.ec_axioms.specs.declared.event.Update.{Update}
use Rattle.ec_commands.specs.declared.limits.TheConstants.{MOST_DRAFTED, SESSIONS}
use Rattle.ec_axioms.specs.Changes.{PlainUpdate}
use Rattle.ec_axioms.specs.Events.{plain_update}
use Rattle.ec_replies.specs.State.{Draft}
use Rattle.ec_replies.specs.RunLaws.{held_count}
use Rattle.ec_sessions.specs.declared.drafts.Room.{Room}
use Rattle.ec_sessions.specs.declared.drafts.Room.TheVariants.{Closed, Open, Full}

-- a kept draft, with its events' times as whole numbers
abbrev pub plain_draft : {T : Type 0} → (T → ℤ) → Option (List (Update T)) → Draft
plain_draft rank draft = option_map (map (plain_update rank)) draft

-- the draft of a session among those of all
abbrev pub draft_in : List Draft → ℕ → Draft
draft_in drafts session = slice_index_or drafts session None

-- there is a draft for each session, and none holds more updates than it may
pub record AreDrafts (drafts : List Draft) : Type 0 where
  pub sessions : length drafts ≡ SESSIONS
  pub few : (session : ℕ) → held_count (draft_in drafts session) ≤ MOST_DRAFTED

-- the draft is open, and can take one update more
abbrev pub IsOpenWithRoom : Draft → Type 0
IsOpenWithRoom draft = (held : List PlainUpdate) × (draft ≡ Some held) × (length held < MOST_DRAFTED)

-- the draft is open, and holds as many updates as it may
abbrev pub IsFull : Draft → Type 0
IsFull draft = (held : List PlainUpdate) × (draft ≡ Some held) × (length held ≡ MOST_DRAFTED)

-- what room a draft has
abbrev pub IsRoomOf : Draft → Room → Type 0
IsRoomOf draft Closed = draft ≡ None
IsRoomOf draft Open = IsOpenWithRoom draft
IsRoomOf draft Full = IsFull draft
