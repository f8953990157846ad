-- What is kept of watched properties while a change is made: of each whose intervals it may move, the intervals that do not end before the change.
use Rattle.std.specs.Prelude.{◌≡◌, ◌≤◌, ◌<◌, ◌==◌, ℕ, ℤ, Bool, false, List, length, filter, take, drop, nat_lt, not, slice_get, Some, IsSome, IsTrue}
use Rattle.std.specs.List.{All, list_any}
use Rattle.ec_terms.specs.declared.theory.Theory.{Theory}
use Rattle.ec_axioms.specs.Calculus.{PlainEvent, intervals_of}
use Rattle.ec_terms.specs.declared.ground.Ground.{Ground}
use Rattle.ec_rows.specs.Ordered.{is_ascending}
use Rattle.ec_store.specs.Table.{KeptProp, prop_at, term_at}
use Rattle.ec_intervals.specs.declared.interval.Interval.{Interval}
use Rattle.ec_intervals.specs.Steps.{ends_before}
use Rattle.ec_intervals.specs.Table.{IntervalTable, members_at, plain_intervals}
use Rattle.ec_delta.specs.declared.touches.Touched.{Touched}
use Rattle.ec_delta.specs.Touched.{Row as TouchedRow, matters_at, touched_at}
use Rattle.ec_watch.specs.declared.row.Row.{Row}
use Rattle.ec_watch.specs.declared.tails.Tail.{Tail}
use Rattle.ec_watch.specs.Watched.{IsThere}

-- ---- lists of tails

-- some tail is that of the row at a place
abbrev pub has_tail : {T : Type 0} → ℕ → List (Tail T) → Bool
has_tail place tails = list_any (λ (tail : Tail _). tail.place == place) tails

-- no row has two
abbrev pub are_apart : {T : Type 0} → List (Tail T) → Bool
are_apart tails = is_ascending (λ (a b : Tail _). not (a.place == b.place)) tails

-- the tails go by the places of their rows, and no row has two
abbrev pub are_placed : {T : Type 0} → List (Tail T) → Bool
are_placed tails = is_ascending (λ (a b : Tail _). nat_lt a.place b.place) tails

-- ---- what tails say of two lists of events

-- The tail of a property from an old list of events to a new one: the intervals of the old list but for so many first ones, which are
-- the first ones of the new list too.
pub record IsTailOf {T : Type 0} (rank : T → ℤ) (theory : Theory) (old new : List PlainEvent) (p : Ground) (tail : Tail T) : Type 0 where
  pub kept : plain_intervals rank tail.intervals ≡ drop tail.skipped (intervals_of theory old p)
  pub within : tail.skipped ≤ length (intervals_of theory old p)
  pub stayed : take tail.skipped (intervals_of theory old p) ≡ take tail.skipped (intervals_of theory new p)

-- Tails of watched properties, given by their rows: each is that of the property of its row, and the intervals of a watched property
-- that has none are the same in both lists.
pub record AreTails {T : Type 0} (rank : T → ℤ) (theory : Theory) (old new : List PlainEvent) (rows : List Row) (tails : List (Tail T)) : Type 0 where
  pub placed : IsTrue (are_placed tails)
  pub of_rows : All (λ (tail : Tail T). tail.place < length rows) tails
  pub each : All (λ (tail : Tail T). (row : Row) → slice_get rows tail.place ≡ Some row → IsTailOf rank theory old new row.prop tail) tails
  pub others : (i : ℕ) (row : Row) → slice_get rows i ≡ Some row → has_tail i tails ≡ false → intervals_of theory old row.prop ≡ intervals_of theory new row.prop

-- ---- what is kept before a change is made

-- the tail of a list of intervals from an instant on: so many first ones are skipped as end before it
pub record IsTailFrom {T : Type 0} (rank : T → ℤ) (a : ℤ) (members : List (Interval T)) (tail : Tail T) : Type 0 where
  pub skipped : tail.skipped ≡ length (filter (ends_before a) (plain_intervals rank members))
  pub kept : tail.intervals ≡ drop tail.skipped members

-- a tail is that of a kept property whose marks change, from the first of these changes on, and its place is that of the property's row
pub record IsTailAt {T : Type 0} (rank : T → ℤ) (rows : List Row) (table : List KeptProp) (intervals : IntervalTable T) (id : ℕ) (touched : Touched T) (tail : Tail T) : Type 0 where
  pub property : Ground
  pub kept : term_at id table ≡ Some property
  pub there : IsThere property rows tail.place
  pub from : IsTailFrom rank (rank touched.from) (members_at id intervals) tail

-- a change of the marks of a property moves no interval of it, if the property is watched
abbrev pub NeedsNoTail : {T : Type 0} → List Row → List KeptProp → ℕ → Touched T → Type 0
NeedsNoTail rows table id touched = (i : ℕ) (row : Row) → slice_get rows i ≡ Some row → term_at id table ≡ Some row.prop → touched.matters ≡ false

-- each property whose marks change is kept
abbrev pub AreKept : {T : Type 0} → List KeptProp → List (TouchedRow T) → Type 0
AreKept table touched = (id : ℕ) (change : Touched _) → touched_at id touched ≡ Some change → IsSome (prop_at id table)

-- a tail is that of one of the properties whose marks change
pub record IsKeptTail {T : Type 0} (rank : T → ℤ) (rows : List Row) (table : List KeptProp) (intervals : IntervalTable T) (touched : List (TouchedRow T)) (tail : Tail T) : Type 0 where
  pub id : ℕ
  pub change : Touched T
  pub touches : touched_at id touched ≡ Some change
  pub at : IsTailAt rank rows table intervals id change tail

-- a watched property that has no tail is moved by no change
abbrev pub OthersStay : {T : Type 0} → List Row → List KeptProp → List (TouchedRow T) → List (Tail T) → Type 0
OthersStay rows table touched tails =
    (i id : ℕ) (row : Row) → slice_get rows i ≡ Some row → term_at id table ≡ Some row.prop → has_tail i tails ≡ false → matters_at id touched ≡ false

-- tails are those of all watched properties that a change may move, each once
pub record AreGathered {T : Type 0} (rank : T → ℤ) (rows : List Row) (table : List KeptProp) (intervals : IntervalTable T) (touched : List (TouchedRow T)) (tails : List (Tail T)) : Type 0 where
  pub apart : IsTrue (are_apart tails)
  pub each : All (IsKeptTail rank rows table intervals touched) tails
  pub others : OthersStay rows table touched tails

-- and they are in the order of their rows
pub record AreKeptTails {T : Type 0} (rank : T → ℤ) (rows : List Row) (table : List KeptProp) (intervals : IntervalTable T) (touched : List (TouchedRow T)) (tails : List (Tail T)) : Type 0 where
  pub placed : IsTrue (are_placed tails)
  pub each : All (IsKeptTail rank rows table intervals touched) tails
  pub others : OthersStay rows table touched tails
