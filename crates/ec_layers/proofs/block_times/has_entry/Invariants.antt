-- None of the entries so far is the one.
use Rattle.std.proofs.Common.{◌≡◌, false, length, take}
use Rattle.ec_moment.specs.declared.tick.Tick.{Tick}
use Rattle.ec_rows.specs.Times.{has_entry}
use Rattle.ec_layers.proofs.block_times.has_entry.Given as goal

abbrev pub invariant-loop-i : goal.invariant-loop-i
invariant-loop-i g l = record {
  none : has_entry (λ (tick : Tick). tick.0) l.at.0 l.id (take l.i (g.X.TimeRow.times l.row)) ≡ false;
  end : l.i-end ≡ length (g.X.TimeRow.times l.row);
}
