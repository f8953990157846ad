-- One more span stands in the list.
use Rattle.std.proofs.Common.{◌∷◌, [], ◌++◌, take, sym, ap, ◌∙◌, arith}
use Rattle.std.proofs.lemmas.List.{take_more}
use Rattle.std.proofs.lemmas.Option.{get_or_from_slice_get}
use Rattle.ec_layers.proofs.block_spans.spans_of.Goals as goal

pub loop-i-preserved : goal.loop-i-preserved
loop-i-preserved g c = record {
  items = c.in_ok-push.ensures.items ∙ ap (λ xs. xs ++ c.get.result ∷ []) c.loop-i.invariant.items
      ∙ ap (λ x. take c.loop-i.i (g.S.SpanRow.spans c.args.row.now) ++ x ∷ []) (sym (get_or_from_slice_get (g.S.SpanRow.spans c.args.row.now) c.loop-i.i c.get.result c.get.result c.get.ensures.span))
      ∙ sym (take_more (g.S.SpanRow.spans c.args.row.now) c.loop-i.i c.get.result (omega (arith, c.loop-i.invariant.end)));
  end = c.loop-i.invariant.end;
}
