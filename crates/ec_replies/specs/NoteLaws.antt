-- The laws of notes, as statements. Each is the contract of a function of the module of laws.
use Rattle.std.specs.Prelude.{◌≡◌, ◌<◌, ℕ, List, [], ◌∷◌, ◌++◌, length, replicate, IsTrue}
use Rattle.ec_terms.specs.declared.ground.Ground.{Ground}
use Rattle.ec_terms.specs.declared.theory.Theory.{Theory}
use Rattle.ec_axioms.specs.Timeline.{Interval}
use Rattle.ec_axioms.specs.Calculus.{PlainEvent, intervals_of}
use Rattle.ec_axioms.specs.Changes.{is_history}
use Rattle.ec_commands.specs.QueryTexts.{Canon}
use Rattle.ec_replies.specs.Notes.{missing_from, note_between, notes_text, with_note}
use Rattle.ec_replies.specs.State.{State, watched_by}
use Rattle.ec_replies.specs.Replies.{Language, is_watched}
use Rattle.ec_replies.specs.Runs.{Step}
use Rattle.ec_replies.specs.RunLaws.{Answered, IsStateWithinLimits}

-- Where no event came or went there is no note.
abbrev pub SameEventsHaveNoNote : Type 0
SameEventsHaveNoNote =
    (theory : Theory) (canon : Canon) (watches : List (List Ground)) (events : List PlainEvent) → notes_text theory canon watches events events ≡ []

-- Where nothing is watched there is no note.
abbrev pub NoWatchHasNoNote : Type 0
NoWatchHasNoNote =
    (theory : Theory) (canon : Canon) (sessions : ℕ) (old new : List PlainEvent) → notes_text theory canon (replicate sessions []) old new ≡ []

-- A note leads from the old intervals of its property to the new ones.
abbrev pub NotesTellTheIntervals : Type 0
NotesTellTheIntervals =
    (theory : Theory) (p : Ground) (old new : List PlainEvent) → IsTrue (is_history old) → IsTrue (is_history new)
    → let before = intervals_of theory old p in
    let after = intervals_of theory new p in
    with_note (missing_from after before) (missing_from before after) before ≡ after

-- ---- notes of a run

-- a text has another within it
abbrev pub HasWithin : List ℕ → List ℕ → Type 0
HasWithin whole part = (front : List ℕ) × (behind : List ℕ) × (whole ≡ front ++ part ++ behind)

-- The text of each step has the note of each watched property, between the events before the step and those after it.
abbrev pub NotesAreTold : Type 0
NotesAreTold =
    (language : Language) (state after : State) (line text : List ℕ) (session : ℕ) (p : Ground) → Step language state line text after
    → session < length state.watches → IsTrue (is_watched p (watched_by session state))
    → HasWithin text (note_between language.theory language.canon session p state.events after.events)

-- What becomes of the intervals of a property that a session watches, over some answered lines, if they are changed as each note says.
abbrev pub AreFollowed : Language → ℕ → Ground → State → List Answered → State → List Interval → List Interval → Type 0
AreFollowed language session p state [] after held last = (after ≡ state) × (last ≡ held)
AreFollowed language session p state (one ∷ rest) after held last =
    (next : State) × Step language state one.line one.text next × IsTrue (is_watched p (watched_by session state))
    × AreFollowed language session p next rest after
    (with_note (missing_from (intervals_of language.theory next.events p) (intervals_of language.theory state.events p))
    (missing_from (intervals_of language.theory state.events p) (intervals_of language.theory next.events p)) held) last

-- Whoever starts with the intervals of a watched property and follows its notes has its present intervals after each line.
abbrev pub FollowedNotesTellTheIntervals : Type 0
FollowedNotesTellTheIntervals =
    (language : Language) (session : ℕ) (p : Ground) (state after : State) (answered : List Answered) (last : List Interval)
    → IsStateWithinLimits language.theory state → AreFollowed language session p state answered after (intervals_of language.theory state.events p) last
    → last ≡ intervals_of language.theory after.events p
