-- The notes of a session, by the tails that were kept.
use Rattle.std.specs.Prelude.{◌≡◌, ℕ, ℤ, if◌then◌else◌, List, [], Option, Some, None, slice_get}
use Rattle.ec_terms.specs.declared.theory.Theory.{Theory}
use Rattle.ec_axioms.specs.Calculus.{PlainEvent}
use Rattle.ec_commands.specs.QueryTexts.{Canon}
use Rattle.ec_replies.specs.Notes.{note_between}
use Rattle.ec_watch.specs.Tails.{IsTailOf}
use Rattle.ec_watch.specs.Watched.{is_watched_by}
use Rattle.ec_watch.specs.declared.row.Row.{Row}
use Rattle.ec_watch.specs.declared.tails.Tail.{Tail}

-- the note of a session on the property of a row, if it watches that
abbrev pub row_note : Theory → Canon → ℕ → List PlainEvent → List PlainEvent → Row → List ℕ
row_note theory canon session old new row = if is_watched_by session row then note_between theory canon session row.prop old new else []

-- the same, where there may be no row
abbrev pub note_of : Theory → Canon → ℕ → List PlainEvent → List PlainEvent → Option Row → List ℕ
note_of theory canon session old new None = []
note_of theory canon session old new (Some row) = row_note theory canon session old new row

-- the note of a session on the property of the row at a place
abbrev pub note_at : Theory → Canon → ℕ → List PlainEvent → List PlainEvent → List Row → ℕ → List ℕ
note_at theory canon session old new rows place = note_of theory canon session old new (slice_get rows place)

-- a tail is that of the property of its row
abbrev pub IsTailOfRow : {T : Type 0} → (T → ℤ) → Theory → List PlainEvent → List PlainEvent → List Row → Tail T → Type 0
IsTailOfRow rank theory old new rows tail = (row : Row) → slice_get rows tail.place ≡ Some row → IsTailOf rank theory old new row.prop tail
