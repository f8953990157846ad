-- The present intervals of a property that may have a number, which of a row can be another interval, and what is missing from a list.
use Rattle.std.specs.Prelude.{ℕ, Bool, not, List, [], ◌∷◌, ◌++◌, map, codes, decimal, Option, Some, None, drop}
use Rattle.ec_axioms.specs.Timeline.{Interval as PlainInterval}
use Rattle.ec_commands.specs.Lines.{line_feed}
use Rattle.ec_commands.specs.QueryTexts.{Canon, counted_text, interval_text}
use Rattle.ec_commands.specs.Relations.{begin_point, point_lt}
use Rattle.ec_intervals.specs.Table.{IntervalTable, members_at}
use Rattle.ec_intervals.specs.declared.interval.Interval.{Interval}
use Rattle.ec_replies.specs.Notes.{missing_from}
use Rattle.ec_terms.specs.Term.{term_text}
use Rattle.ec_terms.specs.declared.ground.Ground.{Ground}
use Rattle.ec_terms.specs.declared.ids.PropId.{PropId}

-- the intervals under a number; none where there is no number
abbrev pub present_members : {T : Type 0} → Option PropId → IntervalTable T → List (Interval T)
present_members None table = []
present_members (Some id) table = members_at id.0 table

-- the second of two intervals begins no later than the first
abbrev pub begins_no_later : PlainInterval → PlainInterval → Bool
begins_no_later i j = not (point_lt (begin_point i.from) (begin_point j.from))

-- of the intervals from a place on, those that are missing from others
abbrev pub missing_behind : ℕ → List PlainInterval → List PlainInterval → List PlainInterval
missing_behind place those these = missing_from those (drop place these)

-- the text of a note, by its parts: for whom it is, what was lost, what was gained
abbrev pub changes_text : Canon → ℕ → Ground → List PlainInterval → List PlainInterval → List ℕ
changes_text canon session p lost gained =
    (((codes "note " ++ decimal session) ++ codes " ") ++ term_text p)
    ++ ((codes " lost " ++ counted_text (map (interval_text canon) lost)) ++ ((codes " gained " ++ counted_text (map (interval_text canon) gained)) ++ line_feed ∷ []))
