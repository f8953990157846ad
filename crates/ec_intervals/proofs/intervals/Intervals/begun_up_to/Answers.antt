-- The row that is found is that of the table.
use Rattle.std.proofs.Common.{◌<◌, not, length, filter, sym, ap, subst, ◌∙◌}
use Rattle.std.specs.Prelude.{◌^◌}
use Rattle.ec_intervals.specs.Steps.{begins_behind}
use Rattle.ec_intervals.specs.Table.{members_in, plain_intervals}
use Rattle.ec_intervals.proofs.KeptRows.{kept_at-found, row_at-kept, row_at-absent}
use Rattle.ec_intervals.proofs.intervals.Intervals.begun_up_to.Goals as goal

pub row_begun_up_to-requires : goal.row_begun_up_to-requires
row_begun_up_to-requires g c =
    record { few = subst (λ row. length (members_in row) < 2 ^ 64) (kept_at-found g.I.SpanRow.spans g.I.SpanRow.spare c.self.inside.rows c.args.p.0 c.in-Some.kept.now c.in-Some.ensures) (c.self.invariant.few c.args.p.0) }

pub returns-in-Some : goal.returns-in-Some
returns-in-Some g c =
    c.row_begun_up_to.ensures
    ∙ sym (ap (λ row. length (filter (λ interval. not (begins_behind (g.T.Moment.rank c.args.at) interval)) (plain_intervals g.T.Moment.rank (members_in row))))
    (row_at-kept g.I.SpanRow.spans g.I.SpanRow.spare c.self.inside.rows c.args.self.now (ap (λ t. t.rows) c.self.view_is) c.args.p.0 c.in-Some.kept.now c.in-Some.ensures))

pub returns-in-None : goal.returns-in-None
returns-in-None g c =
    sym (ap (λ row. length (filter (λ interval. not (begins_behind (g.T.Moment.rank c.args.at) interval)) (plain_intervals g.T.Moment.rank (members_in row))))
    (row_at-absent g.I.SpanRow.spans g.I.SpanRow.spare c.self.inside.rows c.args.self.now (ap (λ t. t.rows) c.self.view_is) c.args.p.0 c.in-None.ensures))
