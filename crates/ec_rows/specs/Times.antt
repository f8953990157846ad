-- Rows of times: entries in the order of their times, and at one time in the order of their identities.
use Rattle.std.specs.Prelude.{ℕ, Bool, not, ◌&&◌, List, filter, ℤ, int_lt, IsTrue, bytes_eq}
use Rattle.std.specs.List.{list_any}
use Rattle.std.specs.declared.cmp.Ordering.{Ordering}
use Rattle.std.specs.Ordering.{int_cmp, int_eq, is_lt, ordering_then}
use Rattle.ec_terms.specs.declared.ids.Slot.{Slot}
use Rattle.ec_terms.specs.Term.{name_cmp}
use Rattle.ec_rows.specs.Ordered.{is_ascending, with_member}

-- an entry: the time and the identity of an event, and the slot under which it is kept
abbrev pub Entry : Type 0 → Type 0
Entry T = T × List ℕ × Slot

-- where an entry stands: the rank of its time, and its identity
abbrev pub place_of : {T : Type 0} → (T → ℤ) → Entry T → ℤ × List ℕ
place_of rank entry = (rank entry.0, entry.1)

-- places go by the time, then by the identity
abbrev pub place_cmp : ℤ × List ℕ → ℤ × List ℕ → Ordering
place_cmp a b = ordering_then (int_cmp a.0 b.0) (name_cmp a.1 b.1)

-- an entry stands before another
abbrev pub entry_before : {T : Type 0} → (T → ℤ) → Entry T → Entry T → Bool
entry_before rank a b = is_lt (place_cmp (place_of rank a) (place_of rank b))

-- a row of times: no two entries have the same time and identity
abbrev pub IsTimeRow : {T : Type 0} → (T → ℤ) → List (Entry T) → Type 0
IsTimeRow rank times = IsTrue (is_ascending (entry_before rank) times)

-- the entries before t
abbrev pub entries_before : {T : Type 0} → (T → ℤ) → ℤ → List (Entry T) → List (Entry T)
entries_before rank t times = filter (λ entry. int_lt (rank entry.0) t) times

-- the entry is that of a time and an identity
abbrev pub is_entry : {T : Type 0} → (T → ℤ) → ℤ → List ℕ → Entry T → Bool
is_entry rank t id entry = int_eq (rank entry.0) t && bytes_eq entry.1 id

-- some entry is
abbrev pub has_entry : {T : Type 0} → (T → ℤ) → ℤ → List ℕ → List (Entry T) → Bool
has_entry rank t id times = list_any (is_entry rank t id) times

-- the row with an entry in its place
abbrev pub with_entry : {T : Type 0} → (T → ℤ) → Entry T → List (Entry T) → List (Entry T)
with_entry rank entry times = with_member (entry_before rank) entry times

-- the row without the entry of a time and an identity
abbrev pub without_entry : {T : Type 0} → (T → ℤ) → ℤ → List ℕ → List (Entry T) → List (Entry T)
without_entry rank t id times = filter (λ entry. not (is_entry rank t id entry)) times
