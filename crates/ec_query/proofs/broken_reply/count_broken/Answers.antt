-- Each begin that is found is the first of those that are left.
use Rattle.std.proofs.Common.{length, option_map, ap, arith}
use Rattle.ec_axioms.specs.Marks.{broken_spans_of}
use Rattle.ec_rows.specs.PlainMarks.{plain_marks}
use Rattle.ec_intervals.specs.Table.{plain_begin, plain_broken}
use Rattle.ec_query.proofs.BrokenLemmas.{left_behind-all, left_behind-next, left_behind-none}
use Rattle.ec_query.proofs.NextOfOrder.{counted_next, fewer_left, fewer_within}
use Rattle.ec_query.proofs.broken_reply.count_broken.Goals as goal

pub loop-found-init : goal.loop-found-init
loop-found-init g c =
    let all = ap length (left_behind-all (broken_spans_of (plain_marks g.T.Moment.rank (g.M.MarkRow.marks c.args.row.now)) c.args.strong c.args.is_initial)) in
    record { counted = omega (arith, all); within = omega (arith, all) }

pub loop-found-smaller : goal.loop-found-smaller
loop-found-smaller g c =
    let rank = g.T.Moment.rank in
    let next = ap length (left_behind-next rank (g.M.MarkRow.marks c.args.row.now) c.len.ensures.row c.args.strong c.args.is_initial (option_map (plain_begin rank) c.loop-found.after) (plain_broken rank c.in-Some.found) c.in-Some.ensures) in
    fewer_left _ _ next

pub loop-found-preserved : goal.loop-found-preserved
loop-found-preserved g c =
    let rank = g.T.Moment.rank in
    let next = ap length (left_behind-next rank (g.M.MarkRow.marks c.args.row.now) c.len.ensures.row c.args.strong c.args.is_initial (option_map (plain_begin rank) c.loop-found.after) (plain_broken rank c.in-Some.found) c.in-Some.ensures) in
    record {
      counted = counted_next c.loop-found.count c.saturating_add-count.result _ _ _ next c.loop-found.invariant.counted c.loop-found.invariant.within c.saturating_add-count.ensures;
      within = fewer_within _ _ _ next c.loop-found.invariant.within;
    }

pub returns : goal.returns
returns g c =
    let rank = g.T.Moment.rank in
    let none = ap length (left_behind-none (option_map (plain_begin rank) c.loop-found.after) (broken_spans_of (plain_marks rank (g.M.MarkRow.marks c.args.row.now)) c.args.strong c.args.is_initial) c.in_default.ensures) in
    omega (arith, none, c.loop-found.invariant.counted)
