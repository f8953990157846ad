-- Marks that are gathered: the initiations of some marks, as clashes.
use Rattle.std.specs.Prelude.{◌≡◌, ℕ, ℤ, if◌then◌else◌, List, sum_by, flat_map}
use Rattle.std.specs.List.{All}
use Rattle.std.specs.List.Sorted.{IsSortedBy}
use Rattle.std.specs.Ordering.{int_eq, int_cmp, is_lt}
use Rattle.ec_terms.specs.declared.ids.PropId.{PropId}
use Rattle.ec_points.specs.Table.{PointTable, marks_at}
use Rattle.ec_rows.specs.declared.mark.Mark.{Mark}
use Rattle.ec_rows.specs.Marks.{IsMarkRow}

-- the marks of some properties, one row after the other
abbrev pub marks_under : {T : Type 0} → PointTable T → List PropId → List (Mark T)
marks_under points list = flat_map (λ (q : PropId). marks_at q.0 points) list

-- how many initiations the marks count at t, together
abbrev pub initiations_at : {T : Type 0} → (T → ℤ) → ℤ → List (Mark T) → ℕ
initiations_at rank t marks = sum_by (λ mark. if int_eq (rank mark.at) t then mark.inits else 0) marks

-- how many clashes they count at t, together
abbrev pub clashes_at : {T : Type 0} → (T → ℤ) → ℤ → List (Mark T) → ℕ
clashes_at rank t marks = sum_by (λ mark. if int_eq (rank mark.at) t then mark.clashes else 0) marks

-- a mark that counts clashes alone: as many as another has initiations
abbrev pub clashing : {T : Type 0} → Mark T → Mark T
clashing mark = record { at = mark.at; inits = 0; terms = 0; clashes = mark.inits }

-- no mark is earlier than one in front of it
abbrev pub AreInTime : {T : Type 0} → (T → ℤ) → List (Mark T) → Type 0
AreInTime rank marks = IsSortedBy (λ a b. is_lt (int_cmp (rank a.at) (rank b.at))) marks

-- a mark counts clashes alone
pub record CountsClashesAlone {T : Type 0} (mark : Mark T) : Type 0 where
  pub inits : mark.inits ≡ 0
  pub terms : mark.terms ≡ 0

-- the marks are a row, and count the initiations of others as clashes, time by time, and nothing else
pub record AreGathered {T : Type 0} (rank : T → ℤ) (others marks : List (Mark T)) : Type 0 where
  pub row : IsMarkRow rank marks
  pub alone : All CountsClashesAlone marks
  pub clashes : (t : ℤ) → clashes_at rank t marks ≡ initiations_at rank t others
