-- The row is that of the list.
use Rattle.std.proofs.Common.{◌<◌, length, refl, sym, ap, subst, ◌∙◌}
use Rattle.std.specs.Prelude.{slice_get}
use Rattle.std.proofs.lemmas.Option.{slice_get_read}
use Rattle.ec_numbered.proofs.number_map.NumberMap.row.Goals as goal

pub returns : goal.returns
returns g c =
    let items = c.self.inside.rows.items in
    let within : c.args.i < length items = subst (λ rows. c.args.i < length rows) (sym c.self.view_is) c.requires in
    sym (ap (λ rows. slice_get rows c.args.i) c.self.view_is) ∙ slice_get_read items (length items) c.args.i c.index.result.now refl within c.index.ensures
