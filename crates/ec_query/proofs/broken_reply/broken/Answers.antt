-- The marks under the number of a property are its own; one without a number, or without marks, has no broken begin.
use Rattle.std.proofs.Common.{◌≡◌, ◌≤◌, length, map, sym, ap, subst, ◌∙◌}
use Rattle.std.specs.Prelude.{◌^◌, ◌-◌}
use Rattle.ec_terms.specs.Domain.{is_strong}
use Rattle.ec_terms.specs.Term.{ground_of}
use Rattle.ec_axioms.specs.Marks.{broken_spans_of}
use Rattle.ec_commands.specs.QueryTexts.{broken_text, counted_text}
use Rattle.ec_rows.specs.PlainMarks.{plain_marks}
use Rattle.ec_points.specs.Table.{is_initial_at, marks_at, marks_in}
use Rattle.ec_query.proofs.BrokenLemmas.{broken-few, broken_reply-kept, broken_reply-unkept, broken_reply-unmarked, same_spelt}
use Rattle.ec_query.proofs.WritingLemmas.{OnErr-renamed, OnOk-renamed}
use Rattle.ec_query.proofs.broken_reply.broken.Goals as goal

pub returns-in_default-clause-written : goal.returns-in_default-clause-written
returns-in_default-clause-written g c = λ events marked.
    OnOk-renamed g.K.Sink.stands c.args.out.now c.write_count.new.out c.write_count.result
    (broken_reply-unkept g.T.Moment.rank c.args.marked.now.theory.now events c.args.marked.now.props.now c.args.marked.now.points.now marked g.T.Moment.canon (ground_of c.args.p.now) (sym c.in_default.ensures.number))
    c.write_count.ensures.written

pub returns-in_default-clause-part : goal.returns-in_default-clause-part
returns-in_default-clause-part g c = λ events marked.
    OnErr-renamed g.K.Sink.stands c.args.out.now c.write_count.new.out c.write_count.result
    (broken_reply-unkept g.T.Moment.rank c.args.marked.now.theory.now events c.args.marked.now.props.now c.args.marked.now.points.now marked g.T.Moment.canon (ground_of c.args.p.now) (sym c.in_default.ensures.number))
    c.write_count.ensures.part

pub returns-in_default-row-clause-written : goal.returns-in_default-row-clause-written
returns-in_default-row-clause-written g c = λ events marked.
    OnOk-renamed g.K.Sink.stands c.args.out.now c.write_count-in_default-row.new.out c.write_count-in_default-row.result
    (broken_reply-unmarked g.T.Moment.rank c.args.marked.now.theory.now events c.args.marked.now.props.now c.args.marked.now.points.now marked c.in-Some.id.0 (ground_of c.args.p.now) c.in-Some.ensures.term g.T.Moment.canon
    (ap marks_in c.in_default-row.ensures.none))
    c.write_count-in_default-row.ensures.written

pub returns-in_default-row-clause-part : goal.returns-in_default-row-clause-part
returns-in_default-row-clause-part g c = λ events marked.
    OnErr-renamed g.K.Sink.stands c.args.out.now c.write_count-in_default-row.new.out c.write_count-in_default-row.result
    (broken_reply-unmarked g.T.Moment.rank c.args.marked.now.theory.now events c.args.marked.now.props.now c.args.marked.now.points.now marked c.in-Some.id.0 (ground_of c.args.p.now) c.in-Some.ensures.term g.T.Moment.canon
    (ap marks_in c.in_default-row.ensures.none))
    c.write_count-in_default-row.ensures.part

pub returns-clause-written : goal.returns-clause-written
returns-clause-written g c = λ events marked.
    let rank = g.T.Moment.rank in
    let points = c.args.marked.now.points.now in
    let id = c.in-Some.id.0 in
    let same : broken_spans_of (plain_marks rank (g.M.MarkRow.marks c.in-Some-row.row.now)) c.is_strong-strong.result c.initial.result
    ≡ broken_spans_of (plain_marks rank (marks_at id points)) (is_strong c.args.marked.now.theory.now (ground_of c.args.p.now)) (is_initial_at id points) =
    same_spelt rank (g.M.MarkRow.marks c.in-Some-row.row.now) (marks_at id points) c.is_strong-strong.result (is_strong c.args.marked.now.theory.now (ground_of c.args.p.now)) c.initial.result (is_initial_at id points)
    (sym (ap marks_in c.in-Some-row.ensures.some)) c.is_strong-strong.ensures c.initial.ensures in
    OnOk-renamed g.K.Sink.stands c.args.out.now c.write_broken.new.out c.write_broken.result
    (ap (λ bs. counted_text (map (broken_text g.T.Moment.canon) bs)) same
    ∙ broken_reply-kept rank c.args.marked.now.theory.now events c.args.marked.now.props.now points marked id (ground_of c.args.p.now) c.in-Some.ensures.term g.T.Moment.canon)
    (c.write_broken.ensures.written
    (subst (λ bs. length bs ≤ 2 ^ 64 - 1) (sym same) (broken-few rank c.args.marked.now.theory.now events c.args.marked.now.props.now points marked id (ground_of c.args.p.now) c.in-Some.ensures.term)))

pub returns-clause-part : goal.returns-clause-part
returns-clause-part g c = λ events marked.
    let rank = g.T.Moment.rank in
    let points = c.args.marked.now.points.now in
    let id = c.in-Some.id.0 in
    let same : broken_spans_of (plain_marks rank (g.M.MarkRow.marks c.in-Some-row.row.now)) c.is_strong-strong.result c.initial.result
    ≡ broken_spans_of (plain_marks rank (marks_at id points)) (is_strong c.args.marked.now.theory.now (ground_of c.args.p.now)) (is_initial_at id points) =
    same_spelt rank (g.M.MarkRow.marks c.in-Some-row.row.now) (marks_at id points) c.is_strong-strong.result (is_strong c.args.marked.now.theory.now (ground_of c.args.p.now)) c.initial.result (is_initial_at id points)
    (sym (ap marks_in c.in-Some-row.ensures.some)) c.is_strong-strong.ensures c.initial.ensures in
    OnErr-renamed g.K.Sink.stands c.args.out.now c.write_broken.new.out c.write_broken.result
    (ap (λ bs. counted_text (map (broken_text g.T.Moment.canon) bs)) same
    ∙ broken_reply-kept rank c.args.marked.now.theory.now events c.args.marked.now.props.now points marked id (ground_of c.args.p.now) c.in-Some.ensures.term g.T.Moment.canon)
    (c.write_broken.ensures.part
    (subst (λ bs. length bs ≤ 2 ^ 64 - 1) (sym same) (broken-few rank c.args.marked.now.theory.now events c.args.marked.now.props.now points marked id (ground_of c.args.p.now) c.in-Some.ensures.term)))
