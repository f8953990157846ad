-- Without a front, a row holds where its spans do.
use Rattle.std.proofs.Common.{◌++◌, map, sym, subst}
use Rattle.ec_intervals.specs.Reach.{IsReachOf}
use Rattle.ec_intervals.specs.Table.{front_members, span_interval}
use Rattle.ec_intervals.proofs.ReachLemmas.{IsReachOf-spans}
use Rattle.ec_intervals.proofs.reach.reach_of.Goals as goal

pub returns-in-None : goal.returns-in-None
returns-in-None g c =
    subst (λ front. IsReachOf g.T.Moment.rank c.reach_of_spans.result (front_members front ++ map span_interval (g.I.SpanRow.spans c.args.kept.now.spans))) (sym c.in-None.is)
    (IsReachOf-spans g.T.Moment.rank c.reach_of_spans.result (g.I.SpanRow.spans c.args.kept.now.spans) c.reach_of_spans.ensures)
