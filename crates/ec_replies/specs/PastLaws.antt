-- The laws of the past, as statements. Each is the contract of a function of the module of laws.
use Rattle.std.specs.Prelude.{◌≡◌, ◌≤◌, ◌<◌, ◌⊎◌, ℕ, Bool, true, false, ◌+◌, IsTrue, IsFalse, List, [], ◌∷◌, length, take, slice_get, Option, Some, Ok, option_map}
use Rattle.ec_terms.specs.declared.theory.Theory.{Theory}
use Rattle.ec_axioms.specs.Calculus.{PlainEvent}
use Rattle.ec_axioms.specs.Changes.{PlainUpdate, asserting, retracting}
use Rattle.ec_commands.specs.declared.limits.TheConstants.{MOST_PAST}
use Rattle.ec_changes.specs.Found.{event_with}
use Rattle.ec_commands.specs.Lines.{is_long}
use Rattle.ec_replies.specs.State.{State, empty_state}
use Rattle.ec_replies.specs.Updates.{updated}
use Rattle.ec_replies.specs.Past.{Accepted, first_kept, list_after, total_weight, with_accepted, within_window}
use Rattle.ec_replies.specs.Replies.{Language}
use Rattle.ec_replies.specs.Runs.{Step, Run, is_quit}
use Rattle.ec_replies.specs.Laws.{BeginsWithOk, line_command, line_prefix, may_change}
use Rattle.ec_replies.specs.RunLaws.{Answered, IsListWithinLimits, RunOf}

-- ---- the window

-- What is kept of all accepted updates is the widest front of them that there is room for: with one update more it would be too much.
pub record IsWidestWindow (room : ℕ) (all kept : List Accepted) : Type 0 where
  pub front : kept ≡ take (length kept) all
  pub fits : total_weight kept ≤ room
  pub widest : (earlier : Accepted) → slice_get all (length kept) ≡ Some earlier → room < total_weight kept + earlier.weight

-- A window is the widest that there is room for.
abbrev pub WindowsAreWidest : Type 0
WindowsAreWidest = (room : ℕ) (all : List Accepted) → IsWidestWindow room all (within_window room all)

-- What has left a window never comes back: the window over a new update needs no more than the window before it.
abbrev pub WindowsNeedNoMore : Type 0
WindowsNeedNoMore =
    (room : ℕ) (update : Accepted) (earlier : List Accepted) → within_window room (update ∷ within_window room earlier) ≡ within_window room (update ∷ earlier)

-- ---- the way back

-- the update that takes back another, which was made on these events
abbrev pub way_back : List PlainEvent → PlainUpdate → Option PlainUpdate
way_back before (asserting e) = Some (retracting e.id)
way_back before (retracting id) = option_map asserting (event_with id before)

-- An accepted update can be taken back: an update follows it that is accepted and leaves the list before it.
abbrev pub AcceptedUpdatesCanBeTakenBack : Type 0
AcceptedUpdatesCanBeTakenBack =
    (theory : Theory) (before after : List PlainEvent) (update : PlainUpdate) → IsListWithinLimits theory before → updated theory before update ≡ Ok after
    → (back : PlainUpdate) × (way_back before update ≡ Some back) × (updated theory after back ≡ Ok before)

-- ---- the past of a run

-- an update that is accepted: an assert, a retract or a commit whose text begins with `ok`
pub record IsAcceptedUpdate (language : Language) (line text : List ℕ) : Type 0 where
  pub short : IsFalse (is_long line)
  pub changes : IsTrue (may_change (line_command language line))
  pub ok : BeginsWithOk (line_prefix language line) text

-- Each accepted update counts one, and no other line changes the past or the events.
abbrev pub AcceptedUpdatesAreCounted : Type 0
AcceptedUpdatesAreCounted =
    (language : Language) (state after : State) (line text : List ℕ) → Step language state line text after
    → (IsAcceptedUpdate language line text → after.past.count ≡ state.past.count + 1)
    × ((IsAcceptedUpdate language line text → ⊥) → (after.past ≡ state.past) × (after.events ≡ state.events))

-- What was the list of events after so many accepted updates is asked about under their number, as long as it is kept.
abbrev pub ThePastIsRemembered : Type 0
ThePastIsRemembered =
    (language : Language) (middle after : State) (lines : List (List ℕ)) (out : List ℕ) → Run language middle lines out after
    → first_kept after.past ≤ middle.past.count → list_after middle.past.count after.events after.past ≡ middle.events

-- what a step does to all accepted updates, the latest first: nothing, or one is in front of them, which was made on the state's events
abbrev pub IsAcceptedBy : State → State → List Accepted → List Accepted → Type 0
IsAcceptedBy state next earlier all =
    ((next.past ≡ state.past) × (all ≡ earlier))
    ⊎ ((weight : ℕ) × (next.past ≡ with_accepted (record { before = state.events; weight = weight }) state.past)
    × (all ≡ record { before = state.events; weight = weight } ∷ earlier))

-- behind a `quit` no update is accepted
abbrev pub IsRestAccepted : Bool → State → State → List Accepted → List Accepted → Type 0 → Type 0
IsRestAccepted true next after earlier all rest = (after ≡ next) × (all ≡ earlier)
IsRestAccepted false next after earlier all rest = rest

-- all accepted updates of a run, in front of earlier ones
abbrev pub AreAccepted : Language → State → List Answered → State → List Accepted → List Accepted → Type 0
AreAccepted language state [] after earlier all = (after ≡ state) × (all ≡ earlier)
AreAccepted language state (one ∷ rest) after earlier all =
    (next : State) × (more : List Accepted) × Step language state one.line one.text next × IsAcceptedBy state next earlier more
    × IsRestAccepted (is_quit language one.line) next after more all (AreAccepted language next rest after more all)

-- Of all accepted updates of a run the past counts each, and keeps the latest, as many as there is room for.
abbrev pub TheWindowIsWidest : Type 0
TheWindowIsWidest =
    (language : Language) (answered : List Answered) (after : State) → RunOf language empty_state answered after
    → (all : List Accepted) × AreAccepted language empty_state answered after [] all × (length all ≡ after.past.count)
    × IsWidestWindow MOST_PAST all after.past.kept
