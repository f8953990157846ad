-- All marks in front of the index are before the time.
use Rattle.std.proofs.Common.{◌≡◌, ◌<◌, ℕ, true}
use Rattle.std.specs.Prelude.{int_lt, slice_index_or}
use Rattle.ec_rows.specs.declared.mark.Mark.{Mark}
use Rattle.ec_points.proofs.reading.first_from.Given as goal

abbrev pub invariant-loop-k : goal.invariant-loop-k
invariant-loop-k g l = (j : ℕ) (m : Mark g.row.T.Denot) → j < l.k → int_lt (g.T.Moment.rank (slice_index_or l.run j m).at) (g.T.Moment.rank l.at) ≡ true
