-- The row that has more room stands in its place.
use Rattle.std.proofs.Common.{◌≤◌, Some, is_some, refl, sym, ap, subst, arith}
use Rattle.std.proofs.lemmas.Grind.{common_steps}
use Rattle.std.specs.Prelude.{option_map, slice_set}
use Rattle.std.proofs.lemmas.Result.{on_ok_weaker}
use Rattle.ec_numbered.specs.ByNumber.{kept_at}
use Rattle.ec_intervals.specs.declared.row.KeptRow.{KeptRow}
use Rattle.ec_intervals.specs.RowViews.{seen}
use Rattle.ec_intervals.specs.Table.{IsGrown, room_in}
use Rattle.ec_intervals.proofs.KeptRows.{kept_at-set, kept_at-set_other}
use Rattle.ec_intervals.proofs.rows.prepare_row.Goals as goal

pub returns-in-Some-clause-others : goal.returns-in-Some-clause-others
returns-in-Some-clause-others g c = λ n other. kept_at-set_other c.args.rows.now c.args.p.0 n _ other

pub returns-in-Some-clause-grown : goal.returns-in-Some-clause-grown
returns-in-Some-clause-grown g c =
    let row : KeptRow _ _ = record { front = c.in-Some.kept.now.front; spans = c.reserve.new.self } in
    let here = kept_at-set c.args.rows.now c.args.p.0 c.in-Some.kept.now row c.in-Some.ensures.kept in
    let grown : IsGrown (Some (seen g.I.SpanRow.spans g.I.SpanRow.spare c.in-Some.kept.now)) (Some (seen g.I.SpanRow.spans g.I.SpanRow.spare row)) = record { front = refl; spans = c.reserve.ensures.same; room = c.reserve.ensures.kept; kept = λ is. is } in
    subst (λ old. IsGrown (option_map (seen g.I.SpanRow.spans g.I.SpanRow.spare) old) (option_map (seen g.I.SpanRow.spans g.I.SpanRow.spare) (kept_at c.args.p.0 (slice_set c.args.rows.now c.args.p.0 (Some row))))) c.in-Some.ensures.kept
    (subst (λ new. IsGrown (Some (seen g.I.SpanRow.spans g.I.SpanRow.spare c.in-Some.kept.now)) (option_map (seen g.I.SpanRow.spans g.I.SpanRow.spare) new)) (sym here) grown)

pub returns-in-Some-clause-room : goal.returns-in-Some-clause-room
returns-in-Some-clause-room g c =
    let row : KeptRow _ _ = record { front = c.in-Some.kept.now.front; spans = c.reserve.new.self } in
    let here = kept_at-set c.args.rows.now c.args.p.0 c.in-Some.kept.now row c.in-Some.ensures.kept in
    on_ok_weaker c.reserve.result (λ ok. subst (λ new. c.args.spans ≤ room_in (option_map (seen g.I.SpanRow.spans g.I.SpanRow.spare) new)) (sym here) ok) c.reserve.ensures.ok

pub returns-in-Some-clause-there : goal.returns-in-Some-clause-there
returns-in-Some-clause-there g c =
    let row : KeptRow _ _ = record { front = c.in-Some.kept.now.front; spans = c.reserve.new.self } in
    let here = kept_at-set c.args.rows.now c.args.p.0 c.in-Some.kept.now row c.in-Some.ensures.kept in
    on_ok_weaker c.reserve.result (λ ok. ap is_some here) c.reserve.ensures.ok

pub returns-in-Some-clause-err : goal.returns-in-Some-clause-err
returns-in-Some-clause-err c = grind (arith, common_steps)

pub add_row-requires : goal.add_row-requires
add_row-requires c = grind (arith, common_steps)

pub returns-in-None-clause-others : goal.returns-in-None-clause-others
returns-in-None-clause-others c = grind (arith, common_steps)
