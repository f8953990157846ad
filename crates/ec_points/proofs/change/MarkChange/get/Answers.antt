-- The new mark at a place is that of what stands there.
use Rattle.std.proofs.Common.{◌<◌, length, refl, sym, ap, ◌∙◌, arith}
use Rattle.std.specs.Prelude.{option_map, slice_get}
use Rattle.std.proofs.lemmas.List.{length-map}
use Rattle.std.proofs.lemmas.Option.{slice_get-map, slice_get_read}
use Rattle.ec_points.specs.declared.change.Hinted.{Hinted}
use Rattle.ec_points.proofs.change.MarkChange.get.Goals as goal

pub returns : goal.returns
returns g c =
    let items = c.self.inside.changes.items in
    let all = ap length c.self.view_is in
    let same = length-map items (λ (hinted : Hinted _). hinted.change) in
    let within : c.args.i < length items = omega (arith, c.requires, all, same) in
    sym (ap (λ changes. slice_get changes c.args.i) c.self.view_is) ∙ slice_get-map (λ (hinted : Hinted _). hinted.change) items c.args.i
    ∙ ap (option_map (λ (hinted : Hinted _). hinted.change)) (slice_get_read items (length items) c.args.i c.index.result.now refl within c.index.ensures)
