-- The row that is found is that of the table, and a place in no row is no place.
use Rattle.std.proofs.Common.{◌<◌, length, ap, subst, ◌∙◌, arith}
use Rattle.std.specs.Prelude.{slice_get}
use Rattle.ec_intervals.specs.Table.{members_in}
use Rattle.ec_intervals.proofs.KeptRows.{row_at-kept, row_at-absent}
use Rattle.ec_intervals.proofs.intervals.Intervals.member.Goals as goal

pub member_of-requires : goal.member_of-requires
member_of-requires g c =
    subst (λ row. c.args.i < length (members_in row)) (row_at-kept g.I.SpanRow.spans g.I.SpanRow.spare c.self.inside.rows c.args.self.now (ap (λ t. t.rows) c.self.view_is) c.args.p.0 c.in-Some.kept.now c.in-Some.ensures) c.requires.within

pub unreachable-requires : goal.unreachable-requires
unreachable-requires g c =
    let within : c.args.i < 0 = subst (λ row. c.args.i < length (members_in row)) (row_at-absent g.I.SpanRow.spans g.I.SpanRow.spare c.self.inside.rows c.args.self.now (ap (λ t. t.rows) c.self.view_is) c.args.p.0 c.in-None.ensures) c.requires.within in
    omega (arith, within)

pub returns-clause-member : goal.returns-clause-member
returns-clause-member g c = ap (λ row. slice_get (members_in row) c.args.i) (row_at-kept g.I.SpanRow.spans g.I.SpanRow.spare c.self.inside.rows c.args.self.now (ap (λ t. t.rows) c.self.view_is) c.args.p.0 c.in-Some.kept.now c.in-Some.ensures) ∙ c.member_of.ensures.member
