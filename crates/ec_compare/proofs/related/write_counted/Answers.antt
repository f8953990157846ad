-- The count and the intervals follow one another.
use Rattle.std.proofs.Common.{◌≡◌, ℕ, ◌≤◌, [], ◌++◌, map, filter, refl, sym, ap, ◌∙◌, arith}
use Rattle.std.specs.Prelude.{decimal}
use Rattle.ec_lists.proofs.Results.{OnErr-anyway}
use Rattle.ec_commands.specs.QueryTexts.{counted_text, interval_text}
use Rattle.ec_commands.specs.Relations.{stands_in}
use Rattle.ec_intervals.specs.Table.{members_at, plain_interval, plain_intervals}
use Rattle.ec_query.specs.Members.{members_text}
use Rattle.ec_query.proofs.WritingLemmas.{IsLeft-start, IsLeft-next, IsLeft-part, IsLeft-last, IsLeft-last_part, counted_text-of}
use Rattle.ec_compare.specs.Stretches.{fronted_text}
use Rattle.ec_compare.proofs.Loops.{fronted-alone}
use Rattle.ec_compare.proofs.related.write_counted.Goals as goal

-- one of two numbers that are the same is no more than the other
same-few : {n m : ℕ} → n ≡ m → n ≤ m
same-few is = omega (arith, is)

pub returns-in_err-write_count-clause-part : goal.returns-in_err-write_count-clause-part
returns-in_err-write_count-clause-part g c = λ row.
    let those = filter (stands_in c.args.wanted (plain_interval g.T.Moment.rank c.args.left.now)) (plain_intervals g.T.Moment.rank (members_at c.args.id.0 c.args.intervals.now)) in
    let rest = members_text (interval_text g.T.Moment.canon) those in
    let start = IsLeft-start {faults = g.K.Sink.faults} c.args.out.now (counted_text (map (interval_text g.T.Moment.canon) those)) (decimal c.count_standing.result ++ rest)
    (counted_text-of (interval_text g.T.Moment.canon) those ∙ ap (λ n. decimal n ++ rest) (sym (c.count_standing.ensures.count row (same-few c.count_ended-first.ensures)))) in
    OnErr-anyway c.from_residual.result (IsLeft-part (decimal c.count_standing.result) rest start refl c.in_err-write_count.ensures.part)

pub returns-clause-written : goal.returns-clause-written
returns-clause-written g c = λ row.
    let those = filter (stands_in c.args.wanted (plain_interval g.T.Moment.rank c.args.left.now)) (plain_intervals g.T.Moment.rank (members_at c.args.id.0 c.args.intervals.now)) in
    let rest = members_text (interval_text g.T.Moment.canon) those in
    let start = IsLeft-start {faults = g.K.Sink.faults} c.args.out.now (counted_text (map (interval_text g.T.Moment.canon) those)) (decimal c.count_standing.result ++ rest)
    (counted_text-of (interval_text g.T.Moment.canon) those ∙ ap (λ n. decimal n ++ rest) (sym (c.count_standing.ensures.count row (same-few c.count_ended-first.ensures)))) in
    IsLeft-last c.write_standing.new.out c.write_standing.result (fronted_text [] g.T.Moment.canon those)
    (IsLeft-next (decimal c.count_standing.result) rest start refl c.in_ok-write_count.ensures.written c.in_ok-write_count.ensures.quiet)
    (sym (fronted-alone g.T.Moment.canon those)) (c.write_standing.ensures.written row (same-few c.count_ended-first.ensures))

pub returns-clause-part : goal.returns-clause-part
returns-clause-part g c = λ row.
    let those = filter (stands_in c.args.wanted (plain_interval g.T.Moment.rank c.args.left.now)) (plain_intervals g.T.Moment.rank (members_at c.args.id.0 c.args.intervals.now)) in
    let rest = members_text (interval_text g.T.Moment.canon) those in
    let start = IsLeft-start {faults = g.K.Sink.faults} c.args.out.now (counted_text (map (interval_text g.T.Moment.canon) those)) (decimal c.count_standing.result ++ rest)
    (counted_text-of (interval_text g.T.Moment.canon) those ∙ ap (λ n. decimal n ++ rest) (sym (c.count_standing.ensures.count row (same-few c.count_ended-first.ensures)))) in
    IsLeft-last_part c.write_standing.new.out c.write_standing.result (fronted_text [] g.T.Moment.canon those)
    (IsLeft-next (decimal c.count_standing.result) rest start refl c.in_ok-write_count.ensures.written c.in_ok-write_count.ensures.quiet)
    (sym (fronted-alone g.T.Moment.canon those)) (c.write_standing.ensures.part row (same-few c.count_ended-first.ensures))
