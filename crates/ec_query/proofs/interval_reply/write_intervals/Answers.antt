-- The count, the front and the spans follow one another.
use Rattle.std.proofs.Common.{◌++◌, map, OnOk, OnErr, refl, sym, ap, ap₂, ◌∙◌, arith}
use Rattle.std.proofs.lemmas.Grind.{common_steps}
use Rattle.std.specs.Prelude.{decimal}
use Rattle.std.proofs.lemmas.Result.{IfOk-at_ok, IfErr-at_err}
use Rattle.ec_lists.proofs.Results.{OnErr-anyway}
use Rattle.ec_outside.specs.Streams.{Appended, AppendedPart}
use Rattle.ec_commands.specs.QueryTexts.{counted_text, interval_text}
use Rattle.ec_intervals.specs.Table.{front_at, front_members, members_at, plain_interval, plain_intervals, spans_at}
use Rattle.ec_query.specs.Members.{members_text, span_text}
use Rattle.ec_query.proofs.WritingLemmas.{IsLeft-start, IsLeft-next, IsLeft-part, IsLeft-last, IsLeft-last_part, counted_text-intervals}
use Rattle.ec_query.proofs.interval_reply.write_intervals.Goals as goal
use Rattle.ec_query.proofs.interval_reply.write_intervals.Goals.{After-write_count}

-- what was written first is the count
counted : (g : _) (c : After-write_count g) → OnOk c.write_count.result (Appended g.K.Sink.stands c.args.out.now c.write_count.new.out (decimal c.len.result))
    × OnErr c.write_count.result (AppendedPart g.K.Sink.stands c.args.out.now c.write_count.new.out (decimal c.len.result))
counted g c = (c.write_count.ensures.written, c.write_count.ensures.part)

pub returns-in_err-write_front-clause-part : goal.returns-in_err-write_front-clause-part
returns-in_err-write_front-clause-part g c =
    let rank = g.T.Moment.rank in
    let canon = g.T.Moment.canon in
    let front = front_at c.args.id.0 c.args.intervals.now in
    let spans = spans_at c.args.id.0 c.args.intervals.now in
    let rest = members_text (span_text rank canon) spans in
    let first = members_text (λ interval. interval_text canon (plain_interval rank interval)) (front_members c.front.result) in
    OnErr-anyway c.from_residual-in_err-write_front.result
    (IsLeft-part first rest
    (IsLeft-next (decimal c.len.result) (first ++ rest)
    (IsLeft-start {faults = g.K.Sink.faults} c.args.out.now (counted_text (map (interval_text canon) (plain_intervals rank (members_at c.args.id.0 c.args.intervals.now)))) (decimal c.len.result ++ (first ++ rest))
    (counted_text-intervals rank canon front spans
    ∙ ap₂ (λ n f. decimal n ++ (members_text (λ interval. interval_text canon (plain_interval rank interval)) (front_members f) ++ rest)) (sym c.len.ensures) (sym c.front.ensures)))
    refl (IfOk-at_ok (λ _. Appended g.K.Sink.stands c.args.out.now c.write_count.new.out (decimal c.len.result)) c.in_ok-write_count.was (counted g (goal.at.returns-in_err-write_front-clause-part g c).After-write_count).0) c.in_ok-write_count.ensures.quiet)
    refl c.in_err-write_front.ensures.part)

pub returns-clause-written : goal.returns-clause-written
returns-clause-written g c =
    let rank = g.T.Moment.rank in
    let canon = g.T.Moment.canon in
    let front = front_at c.args.id.0 c.args.intervals.now in
    let spans = spans_at c.args.id.0 c.args.intervals.now in
    let rest = members_text (span_text rank canon) spans in
    let first = members_text (λ interval. interval_text canon (plain_interval rank interval)) (front_members c.front.result) in
    IsLeft-last c.write_begun.new.out c.write_begun.result rest
    (IsLeft-next first rest
    (IsLeft-next (decimal c.len.result) (first ++ rest)
    (IsLeft-start {faults = g.K.Sink.faults} c.args.out.now (counted_text (map (interval_text canon) (plain_intervals rank (members_at c.args.id.0 c.args.intervals.now)))) (decimal c.len.result ++ (first ++ rest))
    (counted_text-intervals rank canon front spans
    ∙ ap₂ (λ n f. decimal n ++ (members_text (λ interval. interval_text canon (plain_interval rank interval)) (front_members f) ++ rest)) (sym c.len.ensures) (sym c.front.ensures)))
    refl (IfOk-at_ok (λ _. Appended g.K.Sink.stands c.args.out.now c.write_count.new.out (decimal c.len.result)) c.in_ok-write_count.was (counted g (goal.at.returns-clause-written g c).After-write_count).0) c.in_ok-write_count.ensures.quiet)
    refl c.in_ok-write_front.ensures.written c.in_ok-write_front.ensures.quiet)
    refl c.write_begun.ensures.written

pub returns-clause-part : goal.returns-clause-part
returns-clause-part g c =
    let rank = g.T.Moment.rank in
    let canon = g.T.Moment.canon in
    let front = front_at c.args.id.0 c.args.intervals.now in
    let spans = spans_at c.args.id.0 c.args.intervals.now in
    let rest = members_text (span_text rank canon) spans in
    let first = members_text (λ interval. interval_text canon (plain_interval rank interval)) (front_members c.front.result) in
    IsLeft-last_part c.write_begun.new.out c.write_begun.result rest
    (IsLeft-next first rest
    (IsLeft-next (decimal c.len.result) (first ++ rest)
    (IsLeft-start {faults = g.K.Sink.faults} c.args.out.now (counted_text (map (interval_text canon) (plain_intervals rank (members_at c.args.id.0 c.args.intervals.now)))) (decimal c.len.result ++ (first ++ rest))
    (counted_text-intervals rank canon front spans
    ∙ ap₂ (λ n f. decimal n ++ (members_text (λ interval. interval_text canon (plain_interval rank interval)) (front_members f) ++ rest)) (sym c.len.ensures) (sym c.front.ensures)))
    refl (IfOk-at_ok (λ _. Appended g.K.Sink.stands c.args.out.now c.write_count.new.out (decimal c.len.result)) c.in_ok-write_count.was (counted g (goal.at.returns-clause-part g c).After-write_count).0) c.in_ok-write_count.ensures.quiet)
    refl c.in_ok-write_front.ensures.written c.in_ok-write_front.ensures.quiet)
    refl c.write_begun.ensures.part

pub returns-clause-quiet : goal.returns-clause-quiet
returns-clause-quiet c = grind (arith, common_steps)

pub returns-clause-failed : goal.returns-clause-failed
returns-clause-failed c = grind (arith, common_steps)

pub returns-clause-counted : goal.returns-clause-counted
returns-clause-counted c = grind (arith, common_steps)

pub returns-in_err-write_count-clause-part : goal.returns-in_err-write_count-clause-part
returns-in_err-write_count-clause-part g c =
    let rank = g.T.Moment.rank in
    let canon = g.T.Moment.canon in
    let front = front_at c.args.id.0 c.args.intervals.now in
    let spans = spans_at c.args.id.0 c.args.intervals.now in
    let rest = members_text (span_text rank canon) spans in
    let first = members_text (λ interval. interval_text canon (plain_interval rank interval)) (front_members front) in
    OnErr-anyway c.from_residual.result
    (IsLeft-part (decimal c.len.result) (first ++ rest)
    (IsLeft-start {faults = g.K.Sink.faults} c.args.out.now (counted_text (map (interval_text canon) (plain_intervals rank (members_at c.args.id.0 c.args.intervals.now)))) (decimal c.len.result ++ (first ++ rest))
    (counted_text-intervals rank canon front spans ∙ ap (λ n. decimal n ++ (first ++ rest)) (sym c.len.ensures)))
    refl (IfErr-at_err (λ _. AppendedPart g.K.Sink.stands c.args.out.now c.write_count.new.out (decimal c.len.result)) c.in_err-write_count.was (counted g (goal.at.returns-in_err-write_count-clause-part g c).After-write_count).1))
