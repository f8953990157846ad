use Rattle.std.proofs.Common.{◌∷◌, [], ◌++◌, take, append_assoc, sym, ap, ◌∙◌, arith}
use Rattle.std.proofs.lemmas.Grind.{common_steps}
use Rattle.std.proofs.lemmas.List.{take_more}
use Rattle.std.proofs.lemmas.Option.{get_or_from_slice_get}
use Rattle.ec_parts.proofs.gathering.collect_row.Goals as goal

pub loop-i-preserved : goal.loop-i-preserved
loop-i-preserved g c =
    let marks = g.M.MarkRow.marks c.args.row.now in
    c.in_ok-push.ensures.items ∙ ap (λ xs. xs ++ c.get.result ∷ []) c.loop-i.invariant
    ∙ append_assoc c.args.collected.now.items (take c.loop-i.i marks) (c.get.result ∷ [])
    ∙ ap (λ xs. c.args.collected.now.items ++ xs)
    (sym (take_more marks c.loop-i.i c.get.result (omega (arith, c.loop-i-test.true, c.len-i-end.ensures.len))
    ∙ ap (λ m. take c.loop-i.i marks ++ m ∷ []) (get_or_from_slice_get marks c.loop-i.i c.get.result c.get.result c.get.ensures.mark)))

pub returns : goal.returns
returns c = grind (arith, common_steps)
