-- All members in front of the index are before the time.
use Rattle.std.proofs.Common.{◌≡◌, ◌<◌, ℕ, true}
use Rattle.std.specs.Prelude.{int_lt, slice_index_or}
use Rattle.ec_entries.specs.declared.event_entries.Dependent.{Dependent}
use Rattle.ec_entries.proofs.ordered.first_from.Given as goal

abbrev pub invariant-loop-k : goal.invariant-loop-k
invariant-loop-k g l = (j : ℕ) (d : Dependent g.row.T.Denot) → j < l.k → int_lt (g.T.Moment.rank (slice_index_or l.run j d).at) (g.T.Moment.rank l.at) ≡ true
