-- Spans are in the order of their starts.
use Rattle.ec_rows.proofs.SpanLemmas.{by_time-from_row}
use Rattle.ec_block_rows.proofs.block_spans.count_spans_before.Goals as goal

pub count_before-requires : goal.count_before-requires
count_before-requires g c = by_time-from_row g.T.Moment.rank c.args.spans.now.items c.requires
