-- A new row has no intervals, and where none is set the row stays.
use Rattle.std.proofs.Common.{sym, arith}
use Rattle.std.proofs.lemmas.Grind.{common_steps}
use Rattle.ec_intervals.proofs.KeptRows.{IsGrown-made, IsGrown-kept}
use Rattle.ec_intervals.proofs.rows.add_row.Goals as goal

pub returns-in_err-place-clause-grown : goal.returns-in_err-place-clause-grown
returns-in_err-place-clause-grown g c = IsGrown-kept g.I.SpanRow.spans g.I.SpanRow.spare c.args.rows.now c.place.new.self c.args.p.0 (c.place.ensures.same c.args.p.0)

pub returns-in_err-make_row-clause-grown : goal.returns-in_err-make_row-clause-grown
returns-in_err-make_row-clause-grown g c = IsGrown-kept g.I.SpanRow.spans g.I.SpanRow.spare c.args.rows.now c.place.new.self c.args.p.0 (c.place.ensures.same c.args.p.0)

pub returns-clause-grown : goal.returns-clause-grown
returns-clause-grown g c =
    IsGrown-made g.I.SpanRow.spans g.I.SpanRow.spare c.args.rows.now c.set.new.self c.args.p.0 _ (sym c.requires) c.set.ensures.row c.in_ok-make_row.ensures.front c.in_ok-make_row.ensures.spans

pub returns-clause-room : goal.returns-clause-room
returns-clause-room c = grind (arith, common_steps)

pub returns-clause-others : goal.returns-clause-others
returns-clause-others c = grind (arith, common_steps)

pub returns-clause-there : goal.returns-clause-there
returns-clause-there c = grind (arith, common_steps)
