-- The spans so far are the same.
use Rattle.std.proofs.Common.{◌≡◌, take, drop}
use Rattle.ec_intervals.specs.Table.{plain_spans}
use Rattle.ec_intervals.proofs.write.has_spans.Given as goal

abbrev pub invariant-loop-i : goal.invariant-loop-i
invariant-loop-i g l = plain_spans g.T.Moment.rank (take l.i (drop l.from (g.I.SpanRow.spans l.spans))) ≡ plain_spans g.T.Moment.rank (take l.i l.with)
