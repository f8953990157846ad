-- What is read is what stands there.
use Rattle.std.proofs.Common.{◌≡◌, ◌∙◌, ap, length}
use Rattle.std.specs.List.{slice_get}
use Rattle.std.proofs.lemmas.Option.{slice_get_read}
use Rattle.ec_rows.proofs.vec_marks.VecMarksMarkRow.get.Goals as goal

pub returns-clause-mark : goal.returns-clause-mark
returns-clause-mark g c =
    let xs = c.self.inside.marks.items in
    let same : c.args.self.now.items ≡ xs = cc in
    ap (λ ms. slice_get ms c.args.i) same ∙ slice_get_read xs _ c.args.i c.index.result.now (ap length same) c.requires c.index.ensures
