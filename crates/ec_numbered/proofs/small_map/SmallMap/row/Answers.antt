-- The row is that of the list, or of the map.
use Rattle.std.proofs.Common.{◌<◌, length, refl, sym, ap, subst, ◌∙◌, arith}
use Rattle.std.specs.Prelude.{slice_get}
use Rattle.std.proofs.lemmas.Grind.{common_steps}
use Rattle.std.proofs.lemmas.Option.{slice_get_read}
use Rattle.ec_numbered.specs.KeyedRows.{rows_of}
use Rattle.ec_numbered.proofs.small_map.SmallMap.row.Goals as goal

pub returns-in-Some : goal.returns-in-Some
returns-in-Some c = grind (arith, common_steps)

pub returns-in-Few : goal.returns-in-Few
returns-in-Few g c =
    let items = c.in-Few.rows.items in
    let same = sym (ap rows_of c.in-Few.is) ∙ c.self.view_is in
    let within : c.args.i < length items = subst (λ rows. c.args.i < length rows) (sym same) c.requires in
    sym (ap (λ rows. slice_get rows c.args.i) same) ∙ slice_get_read items (length items) c.args.i c.index.result.now refl within c.index.ensures
