-- All members from the first place on, in front of the index, are up to the time.
use Rattle.std.proofs.Common.{◌≡◌, ◌<◌, ◌≤◌, ℕ, true}
use Rattle.std.specs.Prelude.{int_le, slice_index_or}
use Rattle.ec_entries.specs.declared.event_entries.Dependent.{Dependent}
use Rattle.ec_entries.proofs.ordered.first_behind.Given as goal

abbrev pub invariant-loop-k : goal.invariant-loop-k
invariant-loop-k g l = (j : ℕ) (d : Dependent g.row.T.Denot) → l.from ≤ j → j < l.k → int_le (g.T.Moment.rank (slice_index_or l.run j d).at) (g.T.Moment.rank l.at) ≡ true
