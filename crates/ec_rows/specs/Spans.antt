-- Rows of spans: which of them are proper, in what order they stand, and which time a span covers.
use Rattle.std.specs.Prelude.{Bool, true, false, ◌&&◌, List, IsTrue, ℤ, int_lt, int_le, filter}
use Rattle.std.specs.List.{list_all}
use Rattle.ec_rows.specs.declared.span.End.{End}
use Rattle.ec_rows.specs.declared.span.End.TheVariants.{At, Unended}
use Rattle.ec_rows.specs.declared.span.Span.{Span}
use Rattle.ec_rows.specs.Ordered.{is_ascending}

-- the end lies after t
abbrev pub ends_after : {T : Type 0} → (T → ℤ) → ℤ → End T → Bool
ends_after rank t (At x) = int_lt t (rank x)
ends_after rank t Unended = true

-- t lies up to the end
abbrev pub reaches : {T : Type 0} → (T → ℤ) → ℤ → End T → Bool
reaches rank t (At x) = int_le t (rank x)
reaches rank t Unended = true

-- there is an end, and it comes no later than t
abbrev pub ends_by : {T : Type 0} → (T → ℤ) → ℤ → End T → Bool
ends_by rank t (At x) = int_le (rank x) t
ends_by rank t Unended = false

-- a closed end lies after the start
abbrev pub is_proper : {T : Type 0} → (T → ℤ) → Span T → Bool
is_proper rank span = ends_after rank (rank span.from) span.end

-- a span stands before another where it ends by the start of the other
abbrev pub span_before : {T : Type 0} → (T → ℤ) → Span T → Span T → Bool
span_before rank r s = ends_by rank (rank s.from) r.end

-- a row of spans: each is proper and ends by the start of those behind it, so that only the last can be unended
pub record IsSpanRow {T : Type 0} (rank : T → ℤ) (spans : List (Span T)) : Type 0 where
  pub proper : IsTrue (list_all (is_proper rank) spans)
  pub ascending : IsTrue (is_ascending (span_before rank) spans)

-- a span covers t where t lies after its start, and up to its end
abbrev pub is_covering : {T : Type 0} → (T → ℤ) → ℤ → Span T → Bool
is_covering rank t span = int_lt (rank span.from) t && reaches rank t span.end

-- the spans that start before t
abbrev pub spans_before : {T : Type 0} → (T → ℤ) → ℤ → List (Span T) → List (Span T)
spans_before rank t spans = filter (λ span. int_lt (rank span.from) t) spans
