-- The word, the count and the intervals follow one another.
use Rattle.std.proofs.Common.{◌++◌, map, refl, sym, ap, ◌∙◌}
use Rattle.std.specs.Prelude.{decimal}
use Rattle.ec_lists.proofs.Results.{OnErr-anyway}
use Rattle.ec_commands.specs.QueryTexts.{counted_text, interval_text}
use Rattle.ec_intervals.specs.Table.{plain_intervals}
use Rattle.ec_query.specs.Members.{members_text}
use Rattle.ec_query.proofs.WritingLemmas.{IsLeft-start, IsLeft-next, IsLeft-part, IsLeft-last, IsLeft-last_part, counted_text-of}
use Rattle.ec_compare.specs.Lists.{missing_behind}
use Rattle.ec_compare.proofs.missing.write_counted_missing.Goals as goal

pub returns-in_err-write_count-clause-part : goal.returns-in_err-write_count-clause-part
returns-in_err-write_count-clause-part g c = λ row.
    let those = plain_intervals g.T.Moment.rank (g.B.Listed.members c.args.those.now) in
    let missing = missing_behind c.args.from those (plain_intervals g.T.Moment.rank (g.A.Listed.members c.args.these.now)) in
    let rest = members_text (interval_text g.T.Moment.canon) missing in
    let whole = c.args.word.now ++ counted_text (map (interval_text g.T.Moment.canon) missing) in
    let start = IsLeft-start {faults = g.K.Sink.faults} c.args.out.now whole (c.args.word.now ++ (decimal c.count_missing.result ++ rest))
    (ap (λ text. c.args.word.now ++ text) (counted_text-of (interval_text g.T.Moment.canon) missing ∙ ap (λ n. decimal n ++ rest) (sym (c.count_missing.ensures row)))) in
    let next = IsLeft-next c.args.word.now (decimal c.count_missing.result ++ rest) start refl c.in_ok-write_all.ensures.written c.in_ok-write_all.ensures.quiet in
    OnErr-anyway c.from_residual-in_err-write_count.result (IsLeft-part (decimal c.count_missing.result) rest next refl c.in_err-write_count.ensures.part)

pub returns-clause-written : goal.returns-clause-written
returns-clause-written g c = λ row.
    let those = plain_intervals g.T.Moment.rank (g.B.Listed.members c.args.those.now) in
    let missing = missing_behind c.args.from those (plain_intervals g.T.Moment.rank (g.A.Listed.members c.args.these.now)) in
    let rest = members_text (interval_text g.T.Moment.canon) missing in
    let whole = c.args.word.now ++ counted_text (map (interval_text g.T.Moment.canon) missing) in
    let start = IsLeft-start {faults = g.K.Sink.faults} c.args.out.now whole (c.args.word.now ++ (decimal c.count_missing.result ++ rest))
    (ap (λ text. c.args.word.now ++ text) (counted_text-of (interval_text g.T.Moment.canon) missing ∙ ap (λ n. decimal n ++ rest) (sym (c.count_missing.ensures row)))) in
    let next = IsLeft-next c.args.word.now (decimal c.count_missing.result ++ rest) start refl c.in_ok-write_all.ensures.written c.in_ok-write_all.ensures.quiet in
    IsLeft-last c.write_missing.new.out c.write_missing.result rest
    (IsLeft-next (decimal c.count_missing.result) rest next refl c.in_ok-write_count.ensures.written c.in_ok-write_count.ensures.quiet)
    refl (c.write_missing.ensures.written row)

pub returns-clause-part : goal.returns-clause-part
returns-clause-part g c = λ row.
    let those = plain_intervals g.T.Moment.rank (g.B.Listed.members c.args.those.now) in
    let missing = missing_behind c.args.from those (plain_intervals g.T.Moment.rank (g.A.Listed.members c.args.these.now)) in
    let rest = members_text (interval_text g.T.Moment.canon) missing in
    let whole = c.args.word.now ++ counted_text (map (interval_text g.T.Moment.canon) missing) in
    let start = IsLeft-start {faults = g.K.Sink.faults} c.args.out.now whole (c.args.word.now ++ (decimal c.count_missing.result ++ rest))
    (ap (λ text. c.args.word.now ++ text) (counted_text-of (interval_text g.T.Moment.canon) missing ∙ ap (λ n. decimal n ++ rest) (sym (c.count_missing.ensures row)))) in
    let next = IsLeft-next c.args.word.now (decimal c.count_missing.result ++ rest) start refl c.in_ok-write_all.ensures.written c.in_ok-write_all.ensures.quiet in
    IsLeft-last_part c.write_missing.new.out c.write_missing.result rest
    (IsLeft-next (decimal c.count_missing.result) rest next refl c.in_ok-write_count.ensures.written c.in_ok-write_count.ensures.quiet)
    refl (c.write_missing.ensures.part row)
