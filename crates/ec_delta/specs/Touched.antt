-- Where the marks of properties change, by the numbers of the properties.
use Rattle.std.specs.Prelude.{ℕ, ◌+◌, ◌==◌, Bool, false, not, ◌||◌, if◌then◌else◌, List, Option, Some, None}
use Rattle.std.specs.Option.{option_map_or}
use Rattle.std.specs.Map.{lookup}
use Rattle.ec_rows.specs.Ordered.{is_ascending}
use Rattle.ec_delta.specs.declared.touches.Touch.{Touch}
use Rattle.ec_delta.specs.declared.touches.Touched.{Touched}

-- a property by its number, and where its marks change
abbrev pub Row : Type 0 → Type 0
Row T = ℕ × Touched T

-- where the marks of the property of a number change, if some do
abbrev pub touched_at : {T : Type 0} → ℕ → List (Row T) → Option (Touched T)
touched_at n rows = lookup (λ k. n == k) rows

-- a change of its marks may move an interval of it
abbrev pub matters_at : {T : Type 0} → ℕ → List (Row T) → Bool
matters_at n rows = option_map_or (λ touched. touched.matters) (touched_at n rows) false

-- no property stands there twice
abbrev pub are_once : {T : Type 0} → List (Row T) → Bool
are_once rows = is_ascending (λ r s. not (r.0 == s.0)) rows

-- a count with one more, if so
abbrev pub count_if : ℕ → Bool → ℕ
count_if count so = if so then count + 1 else count

-- what is touched where a mark changes first
abbrev pub first_touched : {T : Type 0} → Touch T → Touched T
first_touched touch = record {
  from = touch.at;
  until = touch.at;
  count = 1;
  grows = count_if 0 touch.grows;
  starts = count_if 0 touch.starts;
  matters = touch.matters;
}

-- what is touched where one more mark changes, later than all before
abbrev pub widened : {T : Type 0} → Touched T → Touch T → Touched T
widened touched touch = record {
  from = touched.from;
  until = touch.at;
  count = touched.count + 1;
  grows = count_if touched.grows touch.grows;
  starts = count_if touched.starts touch.starts;
  matters = touched.matters || touch.matters;
}

-- what is touched with one change more
abbrev pub touched_with : {T : Type 0} → Touch T → Option (Touched T) → Touched T
touched_with touch None = first_touched touch
touched_with touch (Some touched) = widened touched touch
