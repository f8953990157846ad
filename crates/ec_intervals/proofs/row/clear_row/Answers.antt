-- No spans are left behind the last.
use Rattle.std.proofs.Common.{◌∙◌, arith}
use Rattle.std.proofs.Math.ListN.{drop_of_length-le}
use Rattle.ec_rows.proofs.SpanLemmas.{IsSpanRow-nil}
use Rattle.ec_intervals.proofs.row.clear_row.Goals as goal

pub splice-requires-clause-spans : goal.splice-requires-clause-spans
splice-requires-clause-spans g c =
    IsSpanRow-nil g.T.Moment.rank _ (drop_of_length-le (g.I.SpanRow.spans c.args.kept.now.spans) (omega (arith, c.len-len.ensures.len)))

pub splice-requires-clause-within : goal.splice-requires-clause-within
splice-requires-clause-within g c = omega (arith, c.len-len.ensures.len)

pub splice-requires-clause-room : goal.splice-requires-clause-room
splice-requires-clause-room g c = omega arith

pub returns-clause-spans : goal.returns-clause-spans
returns-clause-spans g c =
    c.splice.ensures.spans ∙ drop_of_length-le (g.I.SpanRow.spans c.args.kept.now.spans) (omega (arith, c.len-len.ensures.len))

pub returns-clause-room : goal.returns-clause-room
returns-clause-room g c = omega (arith, c.splice.ensures.spare)
