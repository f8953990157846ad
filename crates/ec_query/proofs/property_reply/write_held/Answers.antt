-- Each run is the next of what is left.
use Rattle.std.proofs.Common.{◌+◌, drop, length, map, ap, ◌∙◌, arith}
use Rattle.std.proofs.lemmas.Grind.{common_steps}
use Rattle.ec_lists.proofs.Results.{OnErr-anyway}
use Rattle.ec_axioms.specs.Timeline.{is_held_at}
use Rattle.ec_intervals.specs.Table.{members_at, plain_intervals}
use Rattle.ec_store.specs.Table.{number_of}
use Rattle.ec_query.specs.Holding.{held_numbers, number_text}
use Rattle.ec_query.specs.Members.{members_text}
use Rattle.ec_query.proofs.HoldingLemmas.{filter-next_run}
use Rattle.ec_query.proofs.WritingLemmas.{IsLeft-next, IsLeft-part, members_text-append}
use Rattle.ec_query.proofs.property_reply.write_held.Goals as goal

pub returns-in_err-write_run-clause-part : goal.returns-in_err-write_run-clause-part
returns-in_err-write_run-clause-part g c =
    let rank = g.T.Moment.rank in
    let intervals = c.args.held.now.intervals.now in
    let t = rank c.args.at in
    let text = number_text c.args.held.now.props.now in
    let ns = map number_of c.args.held.now.props.now in
    let run = c.run_in_order-run.result.now in
    let here = held_numbers rank intervals t run in
    let behind = held_numbers rank intervals t (drop (c.loop-i.i + length run) ns) in
    OnErr-anyway c.from_residual.result
    (IsLeft-part (members_text text here) (members_text text behind) c.loop-i.invariant
    (ap (members_text text) (filter-next_run (λ p. is_held_at (plain_intervals rank (members_at p.0 intervals)) t) ns run c.loop-i.i c.run_in_order-run.ensures.run) ∙ members_text-append text here behind)
    c.in_err-write_run.ensures.part)

pub loop-i-preserved : goal.loop-i-preserved
loop-i-preserved g c =
    let rank = g.T.Moment.rank in
    let intervals = c.args.held.now.intervals.now in
    let t = rank c.args.at in
    let text = number_text c.args.held.now.props.now in
    let ns = map number_of c.args.held.now.props.now in
    let run = c.run_in_order-run.result.now in
    let here = held_numbers rank intervals t run in
    let behind = held_numbers rank intervals t (drop (c.loop-i.i + length run) ns) in
    IsLeft-next (members_text text here) (members_text text behind) c.loop-i.invariant
    (ap (members_text text) (filter-next_run (λ p. is_held_at (plain_intervals rank (members_at p.0 intervals)) t) ns run c.loop-i.i c.run_in_order-run.ensures.run) ∙ members_text-append text here behind)
    c.in_ok-write_run.ensures.written c.in_ok-write_run.ensures.quiet

pub overflow_add-i : goal.overflow_add-i
overflow_add-i c = grind (arith, common_steps)

pub returns-in_err-write_run-clause-failed : goal.returns-in_err-write_run-clause-failed
returns-in_err-write_run-clause-failed c = grind (arith, common_steps)

pub returns-clause-written : goal.returns-clause-written
returns-clause-written c = grind (arith, common_steps)

pub returns-in_err-write_run-clause-counted : goal.returns-in_err-write_run-clause-counted
returns-in_err-write_run-clause-counted c = grind (arith, common_steps)
