-- Each number is the next of what is left.
use Rattle.std.proofs.Common.{◌+◌, ◌∷◌, [], drop, get_or, ap, ◌∙◌, arith}
use Rattle.std.proofs.lemmas.Grind.{common_steps}
use Rattle.std.proofs.lemmas.Option.{slice_get-get_or}
use Rattle.ec_lists.proofs.Results.{OnErr-anyway}
use Rattle.ec_terms.specs.declared.ids.PropId.{PropId}
use Rattle.ec_axioms.specs.Timeline.{is_held_at}
use Rattle.ec_intervals.specs.Table.{members_at, plain_intervals}
use Rattle.ec_query.specs.Holding.{held_numbers, number_text}
use Rattle.ec_query.specs.Members.{members_text}
use Rattle.ec_query.proofs.HoldingLemmas.{filter-next_place}
use Rattle.ec_query.proofs.WritingLemmas.{IsLeft-next, IsLeft-part, members_text-append}
use Rattle.ec_query.proofs.property_reply.write_run.Goals as goal

pub returns-in_err-write_one-clause-part : goal.returns-in_err-write_one-clause-part
returns-in_err-write_one-clause-part g c =
    let rank = g.T.Moment.rank in
    let item : PropId = get_or c.args.run.now c.loop-p.p-index (record { 0 = 0 }) in
    let intervals = c.args.held.now.intervals.now in
    let t = rank c.args.at in
    let text = number_text c.args.held.now.props.now in
    let here = held_numbers rank intervals t (item ∷ []) in
    let behind = held_numbers rank intervals t (drop (c.loop-p.p-index + 1) c.args.run.now) in
    OnErr-anyway c.from_residual.result
    (IsLeft-part (members_text text here) (members_text text behind) c.loop-p.invariant
    (ap (members_text text) (filter-next_place (λ p. is_held_at (plain_intervals rank (members_at p.0 intervals)) t) c.args.run.now c.loop-p.p-index item
    (slice_get-get_or c.args.run.now c.loop-p.p-index (record { 0 = 0 }) (omega arith)))
    ∙ members_text-append text here behind)
    c.in_err-write_one.ensures.part)

pub loop-p-preserved : goal.loop-p-preserved
loop-p-preserved g c =
    let rank = g.T.Moment.rank in
    let item : PropId = get_or c.args.run.now c.loop-p.p-index (record { 0 = 0 }) in
    let intervals = c.args.held.now.intervals.now in
    let t = rank c.args.at in
    let text = number_text c.args.held.now.props.now in
    let here = held_numbers rank intervals t (item ∷ []) in
    let behind = held_numbers rank intervals t (drop (c.loop-p.p-index + 1) c.args.run.now) in
    IsLeft-next (members_text text here) (members_text text behind) c.loop-p.invariant
    (ap (members_text text) (filter-next_place (λ p. is_held_at (plain_intervals rank (members_at p.0 intervals)) t) c.args.run.now c.loop-p.p-index item
    (slice_get-get_or c.args.run.now c.loop-p.p-index (record { 0 = 0 }) (omega arith)))
    ∙ members_text-append text here behind)
    c.in_ok-write_one.ensures.written c.in_ok-write_one.ensures.quiet

pub returns-clause-written : goal.returns-clause-written
returns-clause-written c = grind (arith, common_steps)

pub loop-p-init : goal.loop-p-init
loop-p-init c = grind (arith, common_steps)

pub returns-in_err-write_one-clause-counted : goal.returns-in_err-write_one-clause-counted
returns-in_err-write_one-clause-counted c = grind (arith, common_steps)
