-- What is read is what stands there.
use Rattle.std.proofs.Common.{◌≡◌, ◌∙◌, Some, ap, sym, length}
use Rattle.std.specs.List.{slice_get}
use Rattle.std.proofs.lemmas.Option.{slice_get_read}
use Rattle.ec_rows.proofs.vec_times.VecTimesTimeRow.get.Goals as goal

pub returns-clause-entry : goal.returns-clause-entry
returns-clause-entry g c =
    let xs = c.self.inside.times.items in
    let same : c.args.self.now.items ≡ xs = cc in
    ap (λ es. slice_get es c.args.i) same
    ∙ slice_get_read xs _ c.args.i c.index.result.now (ap length same) c.requires c.index.ensures
    ∙ ap (λ id. Some (c.index.result.now.0, id, c.index.result.now.2)) (sym c.copied.ensures.same)
