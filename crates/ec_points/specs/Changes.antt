-- Changes of marks: what a list of new marks, each of one property at one time, leaves of the marks of a property.
use Rattle.std.specs.Prelude.{◌≡◌, ℕ, ℤ, Bool, not, ◌&&◌, ◌==◌, if◌then◌else◌, List, [], ◌∷◌, filter, find, length, Option, Some, None, IsTrue}
use Rattle.std.specs.List.{list_any}
use Rattle.std.specs.Ordering.{int_eq}
use Rattle.ec_terms.specs.declared.ids.PropId.{PropId}
use Rattle.ec_rows.specs.Ordered.{is_ascending}
use Rattle.ec_rows.specs.declared.mark.Mark.{Mark}
use Rattle.ec_rows.specs.Marks.{is_counted, has_mark, mark_at, with_mark}

-- a change: the new mark of a property, by its number
abbrev pub Change : Type 0 → Type 0
Change T = PropId × Mark T

-- ---- lists of changes

-- some change is of a property at a time
abbrev pub has_change : {T : Type 0} → (T → ℤ) → ℕ → ℤ → List (Change T) → Bool
has_change rank n t changes = list_any (λ change. change.0.0 == n && int_eq (rank change.1.at) t) changes

-- two changes are of different properties or times
abbrev pub are_apart : {T : Type 0} → (T → ℤ) → Change T → Change T → Bool
are_apart rank c d = not (c.0.0 == d.0.0 && int_eq (rank c.1.at) (rank d.1.at))

-- no two of the changes are of one property and time
abbrev pub are_all_apart : {T : Type 0} → (T → ℤ) → List (Change T) → Bool
are_all_apart rank changes = is_ascending (are_apart rank) changes

-- how many of the changes are of a property
abbrev pub count_of : {T : Type 0} → ℕ → List (Change T) → ℕ
count_of n changes = length (filter (λ change. change.0.0 == n) changes)

-- a mark is a new one for a row: it is counted, and no mark is at its time
abbrev pub is_new : {T : Type 0} → (T → ℤ) → List (Mark T) → Mark T → Bool
is_new rank marks mark = is_counted mark && not (has_mark rank (rank mark.at) marks)

-- how many of the changes are new marks of a property
abbrev pub growth_of : {T : Type 0} → (T → ℤ) → ℕ → List (Change T) → List (Mark T) → ℕ
growth_of rank n changes marks = length (filter (λ change. change.0.0 == n && is_new rank marks change.1) changes)

-- ---- what they leave

-- the marks without the one at t
abbrev pub without_mark : {T : Type 0} → (T → ℤ) → ℤ → List (Mark T) → List (Mark T)
without_mark rank t marks = filter (λ mark. not (int_eq (rank mark.at) t)) marks

-- the marks with a new one at its time, which takes the old one away; three zeros are no mark
abbrev pub with_change : {T : Type 0} → (T → ℤ) → Mark T → List (Mark T) → List (Mark T)
with_change rank mark marks = if is_counted mark then with_mark rank mark marks else without_mark rank (rank mark.at) marks

-- the marks of a property after the changes, one after the other
unfoldable pub changed : {T : Type 0} → (T → ℤ) → ℕ → List (Change T) → List (Mark T) → List (Mark T)
changed rank n [] marks = marks
changed rank n (change ∷ changes) marks = changed rank n changes (if change.0.0 == n then with_change rank change.1 marks else marks)

-- ---- what stands at one time

-- the change of a property at t, if there is one
abbrev pub change_at : {T : Type 0} → (T → ℤ) → ℕ → ℤ → List (Change T) → Option (Change T)
change_at rank n t changes = find (λ change. change.0.0 == n && int_eq (rank change.1.at) t) changes

-- what becomes of the mark at a time: a change decides, where there is one; three zeros are no mark
abbrev pub made : {T : Type 0} → Option (Change T) → Option (Mark T) → Option (Mark T)
made None old = old
made (Some change) old = if is_counted change.1 then Some change.1 else None

-- each change decides which mark its property has at its time, and all other marks stay
abbrev pub ChangesAreMade : {T : Type 0} → (T → ℤ) → Type 0
ChangesAreMade {T} rank =
    (n : ℕ) (t : ℤ) (changes : List (Change T)) (marks : List (Mark T)) → IsTrue (are_all_apart rank changes)
    → mark_at rank t (changed rank n changes marks) ≡ made (change_at rank n t changes) (mark_at rank t marks)
