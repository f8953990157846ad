-- The run is all of the `Vec` from the place on.
use Rattle.std.proofs.Common.{◌-◌, ap, arith, drop, length, length-drop, take}
use Rattle.std.proofs.lemmas.List.{length-take}
use Rattle.std.proofs.lemmas.Grind.{common_steps}
use Rattle.ec_rows.proofs.vec_spans.VecSpansSpanRow.run.Goals as goal

pub returns-clause-run : goal.returns-clause-run
returns-clause-run g c =
    let spans = c.deref.result.now in
    let i = c.args.i in
    rw (← c.self.view_is)
    (rw (← c.deref.ensures.value) (ap (λ k. take k (drop i spans)) (omega (arith, length-take (length spans - i) (drop i spans), length-drop i spans))))

pub returns-clause-row : goal.returns-clause-row
returns-clause-row g c = rw (← c.self.view_is) c.self.invariant

pub offset_bounds-deref-i : goal.offset_bounds-deref-i
offset_bounds-deref-i g c = grind (arith, common_steps)

pub returns-clause-some : goal.returns-clause-some
returns-clause-some g c = grind (arith, common_steps)

pub slice_bounds-result-count : goal.slice_bounds-result-count
slice_bounds-result-count g c = grind (arith, common_steps)

pub slice_bounds-result-start : goal.slice_bounds-result-start
slice_bounds-result-start g c = grind (arith, common_steps)
