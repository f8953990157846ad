-- What contracts see of the rows of intervals that are kept by number.
use Rattle.std.specs.Prelude.{ℕ, List, map, Option, option_map}
use Rattle.ec_numbered.specs.ByNumber.{kept_at}
use Rattle.ec_rows.specs.declared.span.Span.{Span}
use Rattle.ec_intervals.specs.declared.row.KeptRow.{KeptRow}
use Rattle.ec_intervals.specs.Table.{IntervalRow}

-- what is seen of a row
abbrev pub seen : {T I : Type 0} → (I → List (Span T)) → (I → ℕ) → KeptRow T I → IntervalRow T
seen spans spare kept = record { front = kept.front; spans = spans kept.spans; room = spare kept.spans }

-- what is seen of the row of a number, if there is one
abbrev pub seen_at : {T I : Type 0} → (I → List (Span T)) → (I → ℕ) → ℕ → List (Option (KeptRow T I)) → Option (IntervalRow T)
seen_at spans spare n rows = option_map (seen spans spare) (kept_at n rows)

-- what is seen of all rows, by number
abbrev pub rows_seen : {T I : Type 0} → (I → List (Span T)) → (I → ℕ) → List (Option (KeptRow T I)) → List (Option (IntervalRow T))
rows_seen spans spare rows = map (option_map (seen spans spare)) rows
