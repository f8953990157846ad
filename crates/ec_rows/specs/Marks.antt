-- Rows of marks: their order, and the row with one more mark.
use Rattle.std.specs.Prelude.{◌≡◌, ◌+◌, Bool, nat_lt, List, Option, IsTrue, ℤ, int_lt, filter, find}
use Rattle.std.specs.List.{list_all, list_any}
use Rattle.std.specs.Ordering.{int_eq}
use Rattle.ec_rows.specs.declared.mark.Mark.{Mark}
use Rattle.ec_rows.specs.Ordered.{is_ascending, with_member}

-- a mark stands before another where its time is earlier
abbrev pub mark_before : {T : Type 0} → (T → ℤ) → Mark T → Mark T → Bool
mark_before rank m n = int_lt (rank m.at) (rank n.at)

-- some count of the mark is not zero
abbrev pub is_counted : {T : Type 0} → Mark T → Bool
is_counted mark = nat_lt 0 (mark.inits + mark.terms + mark.clashes)

-- a row of marks: at each time one mark at the most, in the order of the times, and none with three zeros
pub record IsMarkRow {T : Type 0} (rank : T → ℤ) (marks : List (Mark T)) : Type 0 where
  pub ascending : IsTrue (is_ascending (mark_before rank) marks)
  pub counted : IsTrue (list_all is_counted marks)

-- the marks before t, and those after it
abbrev pub marks_before : {T : Type 0} → (T → ℤ) → ℤ → List (Mark T) → List (Mark T)
marks_before rank t marks = filter (λ mark. int_lt (rank mark.at) t) marks

abbrev pub marks_after : {T : Type 0} → (T → ℤ) → ℤ → List (Mark T) → List (Mark T)
marks_after rank t marks = filter (λ mark. int_lt t (rank mark.at)) marks

-- the mark at t, if there is one
abbrev pub mark_at : {T : Type 0} → (T → ℤ) → ℤ → List (Mark T) → Option (Mark T)
mark_at rank t marks = find (λ mark. int_eq (rank mark.at) t) marks

-- some mark is at t
abbrev pub has_mark : {T : Type 0} → (T → ℤ) → ℤ → List (Mark T) → Bool
has_mark rank t marks = list_any (λ mark. int_eq (rank mark.at) t) marks

-- the row with a mark at its time, in place of the one that was there
abbrev pub with_mark : {T : Type 0} → (T → ℤ) → Mark T → List (Mark T) → List (Mark T)
with_mark rank mark marks = with_member (mark_before rank) mark marks

-- each mark of the row is before another
abbrev pub are_before : {T : Type 0} → (T → ℤ) → List (Mark T) → Mark T → Bool
are_before rank marks mark = list_all (λ m. mark_before rank m mark) marks

-- a row of marks is known by the mark that it has at each time
abbrev pub IsKnownByTimes : {T : Type 0} → (T → ℤ) → Type 0
IsKnownByTimes {T} rank =
    (marks others : List (Mark T)) → IsMarkRow rank marks → IsMarkRow rank others
    → ((t : ℤ) → mark_at rank t marks ≡ mark_at rank t others) → marks ≡ others
