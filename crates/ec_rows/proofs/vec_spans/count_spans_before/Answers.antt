-- Spans are in the order of their starts.
use Rattle.std.proofs.Common.{arith}
use Rattle.std.proofs.lemmas.Grind.{common_steps}
use Rattle.ec_rows.proofs.SpanLemmas.{by_time-from_row}
use Rattle.ec_rows.proofs.vec_spans.count_spans_before.Goals as goal

pub count_before-requires : goal.count_before-requires
count_before-requires g c = by_time-from_row g.T.Moment.rank c.args.spans.now c.requires

pub returns : goal.returns
returns g c = grind (arith, common_steps)
