-- The intervals are those that the row spells.
use Rattle.std.proofs.Common.{◌≡◌, true, false}
use Rattle.ec_axioms.specs.Marks.{spans_of}
use Rattle.ec_moment.specs.declared.tick.Tick.{Tick}
use Rattle.ec_rows.specs.Marks.{IsMarkRow}
use Rattle.ec_rows.specs.PlainMarks.{plain_marks}
use Rattle.ec_intervals.specs.Table.{has_row, members_at, plain_intervals}
use Rattle.ec_layers.proofs.intervals.pulse.Given as goal

abbrev pub invariant-loop-k : goal.invariant-loop-k
invariant-loop-k g l = record {
  spelt : plain_intervals (λ (t : Tick). t.0) (members_at 3 l.intervals) ≡ spans_of (plain_marks (λ (t : Tick). t.0) (g.M.MarkRow.marks l.row)) false false;
  row : IsMarkRow (λ (t : Tick). t.0) (g.M.MarkRow.marks l.row);
  there : has_row 3 l.intervals ≡ true;
}
