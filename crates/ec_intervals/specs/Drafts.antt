-- Intervals that are read off marks before they stand in a row.
use Rattle.std.specs.Prelude.{◌≡◌, ◌+◌, ◌≤◌, ◌++◌, ℤ, Bool, List, [], map, length, Some, option_map, vec_len}
use Rattle.std.specs.Vec.{vec_capacity}
use Rattle.ec_axioms.specs.Marks.{PlainMark}
use Rattle.ec_intervals.specs.declared.draft.Draft.{Draft}
use Rattle.ec_intervals.specs.declared.interval.Begin.TheVariants.{Initial}
use Rattle.ec_intervals.specs.declared.interval.Interval.{Interval}
use Rattle.ec_intervals.specs.Steps.{open_through, ended_through}
use Rattle.ec_intervals.specs.Table.{front_members, span_interval, plain_begin, plain_intervals}

-- the intervals of a draft: the front first, then the spans
abbrev pub drafted : {T : Type 0} → Draft T → List (Interval T)
drafted draft = front_members draft.front ++ map span_interval draft.spans.items

-- while the begin before all events is open nothing is drafted
abbrev pub IsFresh : {T : Type 0} → Draft T → Type 0
IsFresh draft = draft.begun ≡ Some Initial → drafted draft ≡ []

-- A draft is read on over some marks: the intervals that they end are added, and the begin that is open behind them is
-- its own. It grows by no more than there are marks.
pub record IsReadOver {T : Type 0} (rank : T → ℤ) (strong : Bool) (marks : List PlainMark) (old new : Draft T) : Type 0 where
  pub begun : option_map (plain_begin rank) new.begun ≡ open_through strong (option_map (plain_begin rank) old.begun) marks
  pub intervals : plain_intervals rank (drafted new) ≡ plain_intervals rank (drafted old) ++ ended_through strong (option_map (plain_begin rank) old.begun) marks
  pub fresh : IsFresh new
  pub count : vec_len new.spans ≤ vec_len old.spans + length marks
  pub capacity : vec_capacity new.spans ≡ vec_capacity old.spans
