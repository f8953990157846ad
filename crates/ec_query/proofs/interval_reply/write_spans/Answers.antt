-- Each run is the next of what is left.
use Rattle.std.proofs.Common.{◌+◌, length, drop, arith}
use Rattle.std.proofs.lemmas.Grind.{common_steps}
use Rattle.ec_lists.proofs.Results.{OnErr-anyway}
use Rattle.ec_query.specs.Members.{members_text, span_text}
use Rattle.ec_query.proofs.WritingLemmas.{IsLeft-next, IsLeft-part, members_text-run}
use Rattle.ec_query.proofs.interval_reply.write_spans.Goals as goal

pub returns-in_err-write_run-clause-part : goal.returns-in_err-write_run-clause-part
returns-in_err-write_run-clause-part g c =
    let text = span_text g.T.Moment.rank g.T.Moment.canon in
    let spans = g.I.SpanRow.spans c.args.spans.now in
    OnErr-anyway c.from_residual.result
    (IsLeft-part (members_text text c.run-run.result.now) (members_text text (drop (c.loop-i.i + length c.run-run.result.now) spans)) c.loop-i.invariant
    (members_text-run text spans c.run-run.result.now c.loop-i.i c.run-run.ensures.run) c.in_err-write_run.ensures.part)

pub loop-i-preserved : goal.loop-i-preserved
loop-i-preserved g c =
    let text = span_text g.T.Moment.rank g.T.Moment.canon in
    let spans = g.I.SpanRow.spans c.args.spans.now in
    IsLeft-next (members_text text c.run-run.result.now) (members_text text (drop (c.loop-i.i + length c.run-run.result.now) spans)) c.loop-i.invariant
    (members_text-run text spans c.run-run.result.now c.loop-i.i c.run-run.ensures.run) c.in_ok-write_run.ensures.written c.in_ok-write_run.ensures.quiet

pub returns-clause-written : goal.returns-clause-written
returns-clause-written c = grind (arith, common_steps)

pub overflow_add-i : goal.overflow_add-i
overflow_add-i c = grind (arith, common_steps)
