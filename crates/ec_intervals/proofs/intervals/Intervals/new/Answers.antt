-- No rows are kept.
use Rattle.ec_intervals.specs.RowViews.{rows_seen}
use Rattle.ec_intervals.proofs.KeptRows.{kept_at-nil}
use Rattle.ec_intervals.proofs.ReachLemmas.{AreKept-none}
use Rattle.ec_intervals.proofs.intervals.Intervals.new.Goals as goal

pub returns : goal.returns
returns g c = kept_at-nil g.I.SpanRow.spans g.I.SpanRow.spare c.new.result c.new.ensures

pub invariant_of-result : goal.invariant_of-result
invariant_of-result g c =
    AreKept-none g.T.Moment.rank c.new-2.result (rows_seen g.I.SpanRow.spans g.I.SpanRow.spare c.new.result) (kept_at-nil g.I.SpanRow.spans g.I.SpanRow.spare c.new.result c.new.ensures)
