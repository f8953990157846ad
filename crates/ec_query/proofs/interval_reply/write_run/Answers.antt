-- Each member is the next of what is left.
use Rattle.std.proofs.Common.{◌+◌, ◌++◌, length, drop, refl, sym, ap, ◌∙◌, arith}
use Rattle.std.proofs.lemmas.Grind.{common_steps}
use Rattle.std.proofs.lemmas.Option.{slice_get_read}
use Rattle.ec_lists.proofs.Results.{OnErr-anyway}
use Rattle.ec_query.specs.Members.{members_text, span_text}
use Rattle.ec_query.proofs.WritingLemmas.{IsLeft-next, IsLeft-part, members_text-next}
use Rattle.ec_query.proofs.interval_reply.write_run.Goals as goal

pub returns-in_err-write_all-clause-part : goal.returns-in_err-write_all-clause-part
returns-in_err-write_all-clause-part g c =
    let rank = g.T.Moment.rank in
    let more = members_text (span_text rank g.T.Moment.canon) (drop (c.loop-span.span-index + 1) c.args.run.now) in
    OnErr-anyway c.from_residual.result
    (IsLeft-part c.as_bytes.result.now more c.loop-span.invariant
    (members_text-next (span_text rank g.T.Moment.canon) c.args.run.now c.loop-span.span-index c.span-item.result
    (slice_get_read c.args.run.now (length c.args.run.now) c.loop-span.span-index c.span-item.result refl (omega arith) c.span-item.is)
    ∙ ap (λ bytes. bytes ++ more) (sym (c.as_bytes.ensures ∙ c.set_interval.ensures)))
    c.in_err-write_all.ensures.part)

pub loop-span-preserved : goal.loop-span-preserved
loop-span-preserved g c =
    let rank = g.T.Moment.rank in
    let more = members_text (span_text rank g.T.Moment.canon) (drop (c.loop-span.span-index + 1) c.args.run.now) in
    IsLeft-next c.as_bytes.result.now more c.loop-span.invariant
    (members_text-next (span_text rank g.T.Moment.canon) c.args.run.now c.loop-span.span-index c.span-item.result
    (slice_get_read c.args.run.now (length c.args.run.now) c.loop-span.span-index c.span-item.result refl (omega arith) c.span-item.is)
    ∙ ap (λ bytes. bytes ++ more) (sym (c.as_bytes.ensures ∙ c.set_interval.ensures)))
    c.in_ok-write_all.ensures.written c.in_ok-write_all.ensures.quiet

pub returns-clause-written : goal.returns-clause-written
returns-clause-written c = grind (arith, common_steps)
