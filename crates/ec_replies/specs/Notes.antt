-- The notes of an accepted update: for each watched property whose intervals differ, those that were lost and those that were gained.
use Rattle.std.specs.Prelude.{ℕ, ◌+◌, Bool, true, false, not, if◌then◌else◌, List, [], ◌∷◌, ◌++◌, map, filter, flat_map, int_lt, codes, decimal}
use Rattle.std.specs.List.{list_any, fold}
use Rattle.ec_terms.specs.declared.ground.Ground.{Ground}
use Rattle.ec_terms.specs.declared.theory.Theory.{Theory}
use Rattle.ec_terms.specs.Term.{term_text}
use Rattle.ec_axioms.specs.Timeline.{Begin, before_all, begin_at, Interval}
use Rattle.ec_axioms.specs.Calculus.{PlainEvent, intervals_of}
use Rattle.ec_axioms.specs.Changes.{interval_eq, has_other_intervals}
use Rattle.ec_commands.specs.Lines.{line_feed}
use Rattle.ec_commands.specs.QueryTexts.{Canon, counted_text, interval_text}

-- ---- what was lost and gained

-- the intervals of the second list that do not stand in the first: lost are those missing from the new list, gained those missing from the old
unfoldable pub missing_from : List Interval → List Interval → List Interval
missing_from those these = filter (λ i. not (list_any (interval_eq i) those)) these

-- ---- texts

-- the note of a session on a property: the intervals that it lost, and those that it gained, each list with its length
unfoldable pub note_text : Canon → ℕ → Ground → List Interval → List Interval → List ℕ
note_text canon session p lost gained =
    codes "note " ++ decimal session ++ codes " " ++ term_text p ++ codes " lost " ++ counted_text (map (interval_text canon) lost)
    ++ codes " gained " ++ counted_text (map (interval_text canon) gained) ++ line_feed ∷ []

-- the note on a property from an old list of events to a new one, if its intervals differ
unfoldable pub note_between : Theory → Canon → ℕ → Ground → List PlainEvent → List PlainEvent → List ℕ
note_between theory canon session p old new =
    if has_other_intervals theory old new p
    then note_text canon session p (missing_from (intervals_of theory new p) (intervals_of theory old p)) (missing_from (intervals_of theory old p) (intervals_of theory new p))
    else []

-- the notes of a session, in the order of what it watches
unfoldable pub session_notes : Theory → Canon → ℕ → List Ground → List PlainEvent → List PlainEvent → List ℕ
session_notes theory canon session watched old new = flat_map (λ p. note_between theory canon session p old new) watched

-- the notes of all sessions from one on, in order
unfoldable pub notes_from : Theory → Canon → ℕ → List (List Ground) → List PlainEvent → List PlainEvent → List ℕ
notes_from theory canon session [] old new = []
notes_from theory canon session (watched ∷ watches) old new =
    session_notes theory canon session watched old new ++ notes_from theory canon (session + 1) watches old new

-- the notes of all sessions: what each watches, and the events before and after
abbrev pub notes_text : Theory → Canon → List (List Ground) → List PlainEvent → List PlainEvent → List ℕ
notes_text theory canon watches old new = notes_from theory canon 0 watches old new

-- ---- what a client keeps

-- a begin comes before another
abbrev pub begins_before : Begin → Begin → Bool
begins_before before_all before_all = false
begins_before before_all (begin_at t) = true
begins_before (begin_at s) before_all = false
begins_before (begin_at s) (begin_at t) = int_lt s t

-- the intervals with one more, in its place by its begin
unfoldable pub with_interval : List Interval → Interval → List Interval
with_interval [] i = i ∷ []
with_interval (j ∷ intervals) i = if begins_before i.from j.from then i ∷ j ∷ intervals else j ∷ with_interval intervals i

-- the intervals without what a note says is lost, and with what it says is gained
unfoldable pub with_note : List Interval → List Interval → List Interval → List Interval
with_note lost gained intervals = fold with_interval (missing_from lost intervals) gained
