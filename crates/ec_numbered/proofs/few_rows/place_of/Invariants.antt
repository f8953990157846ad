-- No row before the index is of the key.
use Rattle.std.proofs.Common.{◌≡◌, ◌<◌, ℕ, false}
use Rattle.std.specs.Prelude.{slice_index_or}
use Rattle.ec_numbered.proofs.few_rows.place_of.Given as goal

abbrev pub invariant-loop-i : goal.invariant-loop-i
invariant-loop-i g l = (j : ℕ) (d : g.row.K.Denot × g.row.V.Denot) → j < l.i → g.K.PartialEq.eq l.key (slice_index_or l.rows j d).0 ≡ false
