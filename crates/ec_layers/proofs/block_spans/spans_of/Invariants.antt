-- The spans so far stand in the list.
use Rattle.std.proofs.Common.{◌≡◌, length, take}
use Rattle.ec_layers.proofs.block_spans.spans_of.Given as goal

abbrev pub invariant-loop-i : goal.invariant-loop-i
invariant-loop-i g l = record {
  items : l.spans.items ≡ take l.i (g.S.SpanRow.spans l.row);
  end : l.i-end ≡ length (g.S.SpanRow.spans l.row);
}
