-- The spans are the same as far as they have been compared, and where two differ the lists do.
use Rattle.std.proofs.Common.{◌-◌, length, length-drop, map, take, drop, refl, sym, ap, ◌∙◌, arith}
use Rattle.std.proofs.lemmas.Grind.{common_steps}
use Rattle.std.proofs.lemmas.Bool.{false≢true}
use Rattle.std.proofs.lemmas.List.{length-map, length-take-le}
use Rattle.std.proofs.lemmas.Option.{slice_get_read}
use Rattle.ec_intervals.specs.Table.{plain_interval, span_interval}
use Rattle.ec_intervals.proofs.Spliced.{same-next, next-same, slice_get-drop}
use Rattle.ec_intervals.proofs.write.has_spans.Goals as goal

pub returns-then-to-from : goal.returns-then-to-from
returns-then-to-from g c = (
  λ never. absurd (false≢true never),
  λ same. absurd (
      let cut = take (c.args.to - c.args.from) (drop c.args.from (g.I.SpanRow.spans c.args.spans.now)) in
      let all = ap length same in
      let cut_plain = length-map (map span_interval cut) (plain_interval g.T.Moment.rank) in
      let cut_count = length-map cut span_interval in
      let with_plain = length-map (map span_interval c.args.with.now) (plain_interval g.T.Moment.rank) in
      let with_count = length-map c.args.with.now span_interval in
      let behind = length-drop c.args.from (g.I.SpanRow.spans c.args.spans.now) in
      let within = length-take-le (c.args.to - c.args.from) (drop c.args.from (g.I.SpanRow.spans c.args.spans.now)) (omega (arith, behind, c.requires.within)) in
      omega (arith, all, cut_plain, cut_count, with_plain, with_count, within, c.if-to-from.true)
      ),
)

pub returns-then-not-is_same_span : goal.returns-then-not-is_same_span
returns-then-not-is_same_span g c = (
  λ never. absurd (false≢true never),
  λ same. absurd (false≢true (sym c.if-not-is_same_span.true
      ∙ c.is_same_span.ensures.1
      (next-same g.T.Moment.rank (drop c.args.from (g.I.SpanRow.spans c.args.spans.now)) c.args.with.now c.loop-i.i c.get.result c.index-with-i.result
      (slice_get-drop (g.I.SpanRow.spans c.args.spans.now) c.args.from c.loop-i.i c.get.result c.get.ensures.span)
      (slice_get_read c.args.with.now (length c.args.with.now) c.loop-i.i c.index-with-i.result refl (omega arith) c.index-with-i.is) c.loop-i.invariant
      (c.args.to - c.args.from) (omega arith) same))),
)

pub loop-i-preserved : goal.loop-i-preserved
loop-i-preserved g c =
    same-next g.T.Moment.rank (drop c.args.from (g.I.SpanRow.spans c.args.spans.now)) c.args.with.now c.loop-i.i c.get.result c.index-with-i.result
    (slice_get-drop (g.I.SpanRow.spans c.args.spans.now) c.args.from c.loop-i.i c.get.result c.get.ensures.span)
    (slice_get_read c.args.with.now (length c.args.with.now) c.loop-i.i c.index-with-i.result refl (omega arith) c.index-with-i.is) c.loop-i.invariant
    (c.is_same_span.ensures.0 c.if-not-is_same_span.false)

pub returns : goal.returns
returns c = grind (arith, common_steps)
