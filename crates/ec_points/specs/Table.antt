-- The marks of all properties, and the currency that they tell.
use Rattle.std.specs.Prelude.{◌≡◌, ℕ, ℤ, Bool, List, [], Option, Some, None, is_some, IsTrue}
use Rattle.std.specs.List.{slice_index_or}
use Rattle.ec_terms.specs.declared.ids.PropId.{PropId}
use Rattle.ec_terms.specs.declared.ground.Ground.{Ground}
use Rattle.ec_terms.specs.declared.theory.Theory.{Theory}
use Rattle.ec_terms.specs.Domain.{is_initial}
use Rattle.ec_axioms.specs.Calculus.{PlainEvent, is_current}
use Rattle.ec_axioms.specs.Changes.{is_history}
use Rattle.ec_axioms.specs.Marks.{marks_of, last_mark_before, current_after}
use Rattle.ec_numbered.specs.PropSet.{has_number}
use Rattle.ec_rows.specs.declared.mark.Mark.{Mark}
use Rattle.ec_rows.specs.PlainMarks.{plain_marks}

-- the row of a property: its marks in order, and how many further marks it takes without memory
pub record PointRow (T : Type 0) : Type 0 where
  pub marks : List (Mark T)
  pub room : ℕ

-- the rows by number, where there are some, the numbers of the properties that hold from before all events, and how
-- many further marks that both initiate and clash are taken without memory
pub record PointTable (T : Type 0) : Type 0 where
  pub rows : List (Option (PointRow T))
  pub initials : List PropId
  pub clash_room : ℕ

-- ---- rows

-- the marks of a row and its room, as a kind of rows tells them
abbrev pub row_of : {T M : Type 0} → (M → List (Mark T)) → (M → ℕ) → M → PointRow T
row_of marks spare row = record { marks = marks row; room = spare row }

-- the marks of a row; where there is none, no marks
abbrev pub marks_in : {T : Type 0} → Option (PointRow T) → List (Mark T)
marks_in None = []
marks_in (Some row) = row.marks

-- the room of a row; where there is none, no room
abbrev pub room_in : {T : Type 0} → Option (PointRow T) → ℕ
room_in None = 0
room_in (Some row) = row.room

-- the row of the property of a number, if there is one
abbrev pub row_at : {T : Type 0} → ℕ → PointTable T → Option (PointRow T)
row_at n points = slice_index_or points.rows n None

-- the property of a number has a row
abbrev pub has_row : {T : Type 0} → ℕ → PointTable T → Bool
has_row n points = is_some (row_at n points)

-- the marks of the property of a number
abbrev pub marks_at : {T : Type 0} → ℕ → PointTable T → List (Mark T)
marks_at n points = marks_in (row_at n points)

-- the room of the property of a number
abbrev pub room_at : {T : Type 0} → ℕ → PointTable T → ℕ
room_at n points = room_in (row_at n points)

-- ---- initial properties

-- the property of a number is initial
abbrev pub is_initial_at : {T : Type 0} → ℕ → PointTable T → Bool
is_initial_at n points = has_number n points.initials

-- ---- currency

-- the property of a number is current at t: the last mark before t initiates it, or there is none and it is initial
abbrev pub is_current_at : {T : Type 0} → (T → ℤ) → PointTable T → ℕ → ℤ → Bool
is_current_at rank points n t = current_after (is_initial_at n points) (last_mark_before (plain_marks rank (marks_at n points)) t)

-- Where the marks of a number are those of a term in a history, and it is initial as the term is, its currency is
-- that of the term.
abbrev pub TellsCurrency : {T : Type 0} → (T → ℤ) → PointTable T → Type 0
TellsCurrency rank points =
    (theory : Theory) (events : List PlainEvent) (term : Ground) (n : ℕ) → IsTrue (is_history events)
    → plain_marks rank (marks_at n points) ≡ marks_of theory events term → is_initial_at n points ≡ is_initial theory term
    → (t : ℤ) → is_current_at rank points n t ≡ is_current theory events term t
