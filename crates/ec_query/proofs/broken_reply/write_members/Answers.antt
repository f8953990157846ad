-- Each begin that is found is the first of those that are left.
use Rattle.std.proofs.Common.{◌++◌, length, option_map, None, Some, sym, ap, ◌∙◌, arith}
use Rattle.std.proofs.lemmas.Grind.{common_steps}
use Rattle.ec_lists.proofs.Results.{OnErr-anyway}
use Rattle.ec_axioms.specs.Marks.{broken_spans_of}
use Rattle.ec_commands.specs.QueryTexts.{broken_text}
use Rattle.ec_rows.specs.PlainMarks.{plain_marks}
use Rattle.ec_intervals.specs.Table.{plain_begin, plain_broken}
use Rattle.ec_query.specs.Members.{members_text}
use Rattle.ec_query.proofs.BrokenLemmas.{left_behind, left_behind-all, left_behind-next, left_behind-none}
use Rattle.ec_query.proofs.NextOfOrder.{fewer_left}
use Rattle.ec_query.proofs.WritingLemmas.{IsLeft-start, IsLeft-next, IsLeft-part, IsLeft-end}
use Rattle.ec_query.proofs.broken_reply.write_members.Goals as goal

pub loop-found-init : goal.loop-found-init
loop-found-init g c =
    let text = broken_text g.T.Moment.canon in
    let all = broken_spans_of (plain_marks g.T.Moment.rank (g.M.MarkRow.marks c.args.row.now)) c.args.strong c.args.is_initial in
    IsLeft-start c.args.out.now (members_text text all) (members_text text (left_behind None all)) (ap (members_text text) (sym (left_behind-all all)))

pub returns-in_err-write_all-clause-part : goal.returns-in_err-write_all-clause-part
returns-in_err-write_all-clause-part g c =
    let rank = g.T.Moment.rank in
    let text = broken_text g.T.Moment.canon in
    let all = broken_spans_of (plain_marks rank (g.M.MarkRow.marks c.args.row.now)) c.args.strong c.args.is_initial in
    let more = members_text text (left_behind (Some (plain_begin rank c.in-Some.found.0)) all) in
    OnErr-anyway c.from_residual.result
    (IsLeft-part c.as_bytes.result.now more c.loop-found.invariant
    (ap (members_text text) (left_behind-next rank (g.M.MarkRow.marks c.args.row.now) c.len.ensures.row c.args.strong c.args.is_initial (option_map (plain_begin rank) c.loop-found.after) (plain_broken rank c.in-Some.found) c.in-Some.ensures)
    ∙ ap (λ bytes. bytes ++ more) (sym (c.as_bytes.ensures ∙ c.set_broken.ensures)))
    c.in_err-write_all.ensures.part)

pub loop-found-smaller : goal.loop-found-smaller
loop-found-smaller g c =
    let rank = g.T.Moment.rank in
    let next = ap length (left_behind-next rank (g.M.MarkRow.marks c.args.row.now) c.len.ensures.row c.args.strong c.args.is_initial (option_map (plain_begin rank) c.loop-found.after) (plain_broken rank c.in-Some.found) c.in-Some.ensures) in
    fewer_left _ _ next

pub loop-found-preserved : goal.loop-found-preserved
loop-found-preserved g c =
    let rank = g.T.Moment.rank in
    let text = broken_text g.T.Moment.canon in
    let all = broken_spans_of (plain_marks rank (g.M.MarkRow.marks c.args.row.now)) c.args.strong c.args.is_initial in
    let more = members_text text (left_behind (Some (plain_begin rank c.in-Some.found.0)) all) in
    IsLeft-next c.as_bytes.result.now more c.loop-found.invariant
    (ap (members_text text) (left_behind-next rank (g.M.MarkRow.marks c.args.row.now) c.len.ensures.row c.args.strong c.args.is_initial (option_map (plain_begin rank) c.loop-found.after) (plain_broken rank c.in-Some.found) c.in-Some.ensures)
    ∙ ap (λ bytes. bytes ++ more) (sym (c.as_bytes.ensures ∙ c.set_broken.ensures)))
    c.in_ok-write_all.ensures.written c.in_ok-write_all.ensures.quiet

pub returns-clause-written : goal.returns-clause-written
returns-clause-written g c =
    let rank = g.T.Moment.rank in
    let text = broken_text g.T.Moment.canon in
    let all = broken_spans_of (plain_marks rank (g.M.MarkRow.marks c.args.row.now)) c.args.strong c.args.is_initial in
    IsLeft-end c.loop-found.invariant (ap (members_text text) (left_behind-none (option_map (plain_begin rank) c.loop-found.after) all c.in_default.ensures))

pub returns-in_err-write_all-clause-counted : goal.returns-in_err-write_all-clause-counted
returns-in_err-write_all-clause-counted c = grind (arith, common_steps)
