-- What is noted where one property is settled at an instant: its new mark, its currency behind the instant, and when it is due
-- again. All goes by the number of the property here.
use Rattle.std.specs.Prelude.{◌≡◌, ◌⊎◌, ℕ, ◌==◌, Bool, not, ◌&&◌, nat_lt, if◌then◌else◌, List, [], ◌∷◌, ◌++◌, ℤ, ◌<ℤ◌, ◌≤ℤ◌, filter, Option, Some, None, unwrap_or, is_some, IsTrue, IfSome, IsSomeAnd}
use Rattle.std.specs.Option.{option_map_or}
use Rattle.ec_terms.specs.declared.ids.PropId.{PropId}
use Rattle.ec_terms.specs.declared.ground.Ground.{Ground}
use Rattle.ec_terms.specs.declared.theory.Theory.{Theory}
use Rattle.ec_numbered.specs.Due.{Due, has_due}
use Rattle.ec_changes.specs.QuietLaws.{current_behind}
use Rattle.ec_entries.specs.declared.event_entries.Dependent.{Dependent}
use Rattle.ec_entries.specs.Dependents.{dependent_at}
use Rattle.ec_exclusive.specs.Added.{Added, is_added}
use Rattle.ec_exclusive.specs.Forms.{breaks_by_initiation}
use Rattle.ec_exclusive.specs.Neighbours.{AreNeighbours, Neighbourhoods}
use Rattle.ec_points.specs.Changes.{Change as MarkChange}
use Rattle.ec_points.specs.Table.{PointTable, is_current_at, marks_at}
use Rattle.ec_store.specs.Table.{KeptProp, term_at}
use Rattle.ec_rows.specs.declared.mark.Mark.{Mark}
use Rattle.ec_rows.specs.Marks.{has_mark, is_counted, mark_at}
use Rattle.ec_rows.specs.PlainMarks.{plain_mark}
use Rattle.ec_revise.specs.declared.settled.Currencies.{Currencies}
use Rattle.ec_revise.specs.declared.settled.Settled.{Settled}
use Rattle.ec_revise.specs.declared.settled.Tallied.{Tallied}
use Rattle.ec_revise.specs.Sweep.{other_currency}
use Rattle.ec_revise.specs.Tallied.{HasRoomFor, mark_tallied}
use Rattle.ec_revise.specs.TurnCounts.{row_at}
use Rattle.ec_revise.specs.Visit.{mark_matters, mark_planned}
use Rattle.ec_delta.specs.declared.delta.Planned.{Planned}
use Rattle.ec_delta.specs.declared.touches.Touch.{Touch}
use Rattle.ec_delta.specs.declared.touches.Touched.{Touched}
use Rattle.ec_delta.specs.Touched.{touched_at, touched_with}
use Rattle.ec_sweep.specs.Hits.{Slots}
use Rattle.ec_sweep.specs.State.{DirtyRows, dirty_at}

-- ---- how a property is settled

-- a mark at a time: three zeros, where there is none
abbrev pub mark_or_zeros : {T : Type 0} → T → Option (Mark T) → Mark T
mark_or_zeros at mark = record {
  at = at;
  inits = option_map_or (λ m. m.inits) mark 0;
  terms = option_map_or (λ m. m.terms) mark 0;
  clashes = option_map_or (λ m. m.clashes) mark 0;
}

-- The time of the first mark of the property of a number behind t, if it has one there.
pub record IsNextMark {T : Type 0} (rank : T → ℤ) (points : PointTable T) (n : ℕ) (t : ℤ) (next : Option T) : Type 0 where
  pub some : IfSome next (λ time. (t <ℤ rank time) × IsTrue (has_mark rank (rank time) (marks_at n points)))
  pub least : (u : ℤ) → t <ℤ u → IsTrue (has_mark rank u (marks_at n points)) → IsSomeAnd next (λ time. rank time ≤ℤ u)

-- the old mark of the property of a number at a time
abbrev pub old_mark : {T : Type 0} → (T → ℤ) → PointTable T → T → ℕ → Mark T
old_mark rank points at n = mark_or_zeros at (mark_at rank (rank at) (marks_at n points))

-- its two currencies there, where its new one is given if it is dirty
abbrev pub currencies_at : {T : Type 0} → (T → ℤ) → PointTable T → T → ℕ → Option Bool → Currencies
currencies_at rank points at n found = let current = is_current_at rank points n (rank at) in record { in_old = current; in_new = unwrap_or found current }

-- a property is settled by its old mark, what turned for it, and its two currencies
pub record IsSettledBy {T : Type 0} (rank : T → ℤ) (mark : Mark T) (tallied : Tallied) (current : Currencies) (settled : Settled T) : Type 0 where
  pub mark_is : settled.mark ≡ mark_tallied mark tallied
  pub changed : settled.is_changed ≡ is_some (mark_planned (plain_mark rank mark) (plain_mark rank settled.mark))
  pub dirty : settled.dirty ≡ other_currency (current_behind current.in_old (plain_mark rank mark)) (current_behind current.in_new (plain_mark rank settled.mark))
  pub matters : settled.matters ≡ mark_matters current.in_old current.in_new (plain_mark rank mark) (plain_mark rank settled.mark)

-- ---- what is planned

-- a list with a member behind all others, if so
abbrev pub with_if : {X : Type 0} → Bool → X → List X → List X
with_if so x xs = if so then xs ++ x ∷ [] else xs

-- the changes of the property of a number
abbrev pub own_changes : {T : Type 0} → ℕ → List (MarkChange T) → List (MarkChange T)
own_changes n changes = filter (λ change. change.0.0 == n) changes

-- a mark with its initiations alone
abbrev pub starts_of : {T : Type 0} → Mark T → Mark T
starts_of mark = record { at = mark.at; inits = mark.inits; terms = 0; clashes = 0 }

-- the mark changes, and its initiations do
abbrev pub starts_change : {T : Type 0} → Mark T → Settled T → Bool
starts_change old settled = settled.is_changed && not (old.inits == settled.mark.inits)

-- whether the new initiations of a property are planned: whether they change, and an initiation may break its term
abbrev pub ArePlannedIf : {T : Type 0} → Neighbourhoods → PropId → Mark T → Settled T → Bool → Type 0
ArePlannedIf around p old settled so =
    (theory : Theory) (table : List KeptProp) (term : Ground) → AreNeighbours theory table around → term_at p.0 table ≡ Some term
    → so ≡ (starts_change old settled && breaks_by_initiation theory term)

-- the change of the mark, as it is noted, where its initiations are planned or not
abbrev pub touch_of : {T : Type 0} → Bool → Mark T → Settled T → Touch T
touch_of starts old settled = record {
  at = settled.mark.at;
  grows = not (is_counted old) && is_counted settled.mark;
  starts = starts && not (nat_lt 0 old.inits) && nat_lt 0 settled.mark.inits;
  matters = settled.matters;
}

-- where marks change, with one change more, if so
abbrev pub touched_if : {T : Type 0} → Bool → Touch T → Option (Touched T) → Option (Touched T)
touched_if so touch touched = if so then Some (touched_with touch touched) else touched

-- The new mark of a property is planned, if it is another one: as it is, its initiations alone if they change and are kept, and
-- where.
pub record PlansMark {T : Type 0} (around : Neighbourhoods) (p : PropId) (old : Mark T) (settled : Settled T) (before after : Planned T) : Type 0 where
  pub starts : Bool
  pub starts_if : ArePlannedIf around p old settled starts
  pub marks : after.marks ≡ with_if settled.is_changed (p, settled.mark) before.marks
  pub initiations : after.initiations ≡ with_if starts (p, starts_of settled.mark) before.initiations
  pub touched : (n : ℕ) → touched_at n after.touched ≡ touched_if (settled.is_changed && p.0 == n) (touch_of starts old settled) (touched_at n before.touched)

-- ---- what is due

-- an entry at u reads the property of a number
pub record IsReadAt {T : Type 0} (rank : T → ℤ) (slots : Slots T) (n : ℕ) (u : ℤ) : Type 0 where
  pub slot : ℕ
  pub place : ℕ
  pub dependent : Dependent T
  pub there : dependent_at n slots slot place ≡ Some dependent
  pub time : rank dependent.at ≡ u

-- the property of a number has a mark at u, or an entry there reads it
abbrev pub BearsAt : {T : Type 0} → (T → ℤ) → PointTable T → Slots T → ℕ → ℤ → Type 0
BearsAt rank points slots n u = IsTrue (has_mark rank u (marks_at n points)) ⊎ IsReadAt rank slots n u

-- the property of a number is due behind t, and at u at the latest
pub record IsDueWithin {T : Type 0} (rank : T → ℤ) (agenda : List (Due T)) (n : ℕ) (t u : ℤ) : Type 0 where
  pub time : ℤ
  pub after : t <ℤ time
  pub by : time ≤ℤ u
  pub due : IsTrue (has_due rank time n agenda)

-- What was due stays so, and what is newly due is of the numbers that pass a test, behind t, where something bears on it.
pub record AddsDue {T : Type 0} (rank : T → ℤ) (points : PointTable T) (slots : Slots T) (t : ℤ) (among : ℕ → Bool) (before after : List (Due T)) : Type 0 where
  pub still : (n : ℕ) (u : ℤ) → IsTrue (has_due rank u n before) → IsTrue (has_due rank u n after)
  pub only : (n : ℕ) (u : ℤ) → IsTrue (has_due rank u n after) → IsTrue (has_due rank u n before) ⊎ (IsTrue (among n) × (t <ℤ u) × BearsAt rank points slots n u)

-- ---- all together

-- what is noted while properties are settled: those that are dirty, when some are due, and what is planned
pub record Noted (T : Type 0) : Type 0 where
  pub dirty : DirtyRows
  pub agenda : List (Due T)
  pub planned : Planned T

-- A property is settled at a time: its new mark is planned, it is dirty or not, and if it is, it is due by the time that
-- anything bears on it.
pub record SettlesNumber {T : Type 0} (rank : T → ℤ) (around : Neighbourhoods) (points : PointTable T) (slots : Slots T) (at : T) (p : PropId) (tallied : Tallied) (before after : Noted T) : Type 0 where
  pub settled : Settled T
  pub starts : Bool
  pub starts_if : ArePlannedIf around p (old_mark rank points at p.0) settled starts
  pub is : IsSettledBy rank (old_mark rank points at p.0) tallied (currencies_at rank points at p.0 (dirty_at p.0 before.dirty)) settled
  pub dirty : dirty_at p.0 after.dirty ≡ settled.dirty
  pub marks : own_changes p.0 after.planned.marks ≡ with_if settled.is_changed (p, settled.mark) (own_changes p.0 before.planned.marks)
  pub initiations : own_changes p.0 after.planned.initiations ≡ with_if starts (p, starts_of settled.mark) (own_changes p.0 before.planned.initiations)
  pub touched : touched_at p.0 after.planned.touched ≡ touched_if settled.is_changed (touch_of starts (old_mark rank points at p.0) settled) (touched_at p.0 before.planned.touched)
  pub due : (u : ℤ) → IsTrue (is_some settled.dirty) → rank at <ℤ u → BearsAt rank points slots p.0 u → IsDueWithin rank after.agenda p.0 (rank at) u

-- a property is left alone
pub record LeavesNumber {T : Type 0} (n : ℕ) (before after : Noted T) : Type 0 where
  pub dirty : dirty_at n after.dirty ≡ dirty_at n before.dirty
  pub marks : own_changes n after.planned.marks ≡ own_changes n before.planned.marks
  pub initiations : own_changes n after.planned.initiations ≡ own_changes n before.planned.initiations
  pub touched : touched_at n after.planned.touched ≡ touched_at n before.planned.touched

-- The properties of some rows are settled, each by what is tallied of it, and all others are left alone.
pub record SettlesRows {T : Type 0} (rank : T → ℤ) (around : Neighbourhoods) (points : PointTable T) (slots : Slots T) (at : T) (rows : List (ℕ × Tallied)) (before after : Noted T) : Type 0 where
  pub each : (p : PropId) (tallied : Tallied) → row_at p.0 rows ≡ Some tallied → SettlesNumber rank around points slots at p tallied before after
  pub others : (n : ℕ) → row_at n rows ≡ None → LeavesNumber n before after
  pub dues : AddsDue rank points slots (rank at) (λ n. is_some (row_at n rows)) before.agenda after.agenda

-- each property of some rows is added
abbrev pub AreAdded : List Added → List (ℕ × Tallied) → Type 0
AreAdded added rows = (p : PropId) (tallied : Tallied) → row_at p.0 rows ≡ Some tallied → IsTrue (is_added p added)

-- each property of some rows has room for what is tallied of it
abbrev pub HaveRoom : {T : Type 0} → (T → ℤ) → PointTable T → T → List (ℕ × Tallied) → Type 0
HaveRoom rank points at rows = (n : ℕ) (tallied : Tallied) → row_at n rows ≡ Some tallied → HasRoomFor (old_mark rank points at n) tallied
