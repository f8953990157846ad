-- The spans so far are a row.
use Rattle.std.proofs.Common.{take}
use Rattle.ec_moment.specs.declared.tick.Tick.{Tick}
use Rattle.ec_rows.specs.Spans.{IsSpanRow}
use Rattle.ec_layers.proofs.block_spans.is_row.Given as goal

abbrev pub invariant-loop-i : goal.invariant-loop-i
invariant-loop-i l = IsSpanRow (λ (tick : Tick). tick.0) (take l.i l.spans)
